-- The graph of a valid case has the case's labels and state table, as far as the rule looks.
-- The rows hold just the steps of the file that have a place there, and all steps of a valid case have one.
use mathlib.Core.Bool.{Bool, false}
use mathlib.Core.List.{List}
use mathlib.Core.Path.{◌≡◌, sym, ap, ◌∙◌}
use Prim.Native.Nat.{ℕ, ◌+◌, ◌*◌, ◌<◌}
use native.Mathlib.Decide.{dec_lt}
use native.Mathlib.Omega.{arith}
use borrow.Author.Tests.{lt-ltb, le-ltb}
use lib.Bits.{bit_and}
use lib.Dec.{ltb}
use lib.ListN.{length, get_or, get_or-eq_default}
use lib.Pow.{pow_mono}
use Rattle.flc.specs.Sets.{both, has, set_of}
use Rattle.flc.specs.Formula.{actions}
use Rattle.flc.specs.Vocabulary.{reduct}
use Rattle.flc.proofs.Masks.{has-set_of, set_of_lt, set_ext, has_empty, has_beyond}
use Rattle.case_model.specs.Limits.{most_states}
use Rattle.case_model.specs.Case.{Case, listed, table}
use Rattle.case_model.specs.Looking.{looked}
use Rattle.case_model.specs.Valid.{ValidTable}
use Rattle.case_model.proofs.Tests.{is_false}
use Rattle.case_model.proofs.Steps.{listed_in}
use Rattle.case_reader.specs.StepRows.{relation, StepRows}
use Rattle.bisimilarity.specs.Graphs.{Drawn}
use Rattle.bisimilarity.specs.Successors.{Within}
use Rattle.bisimilarity.specs.declared.graph.Graph.{Graph}

module _ {c : Case} (valid : ValidTable most_states c) {steps : List ℕ} (rows : StepRows c.steps steps) where
  -- what is out of range is no step
  no_step : (s a t : ℕ) → ((s < length c.labels) → (a < actions) → (t < length c.labels) → ⊥) → listed c.steps s a t ≡ false
  no_step s a t n = is_false _ (λ u. let r = listed_in valid s a t u in n r.from r.action r.to)

  -- bit t of row 8s + a, for any state and any of the actions
  row_is : (s a t : ℕ) → a < actions → relation steps s a t ≡ listed c.steps s a t
  unfolding relation
  row_is s a t h = elim (dec_lt s 16) [
    | no k ↦
        ap (λ y. has y t) (get_or-eq_default steps 0 {n = 8 * s + a} (omega (arith, rows.long))) ∙ has_empty t
        ∙ sym (no_step s a t (λ i _ _. omega (arith, valid.few)))
    | yes k ↦ elim (dec_lt t 16) [
      | yes l ↦ rows.is s a t k h l
      | no l ↦ has_beyond 16 _ t (rows.small (8 * s + a)) (omega arith) ∙ sym (no_step s a t (λ _ _ i. omega (arith, valid.few)))
    ]
  ]

  steps_are : (s a t : ℕ) → both (ltb a actions) (has (get_or steps (8 * s + a) 0) t) ≡ listed c.steps s a t
  unfolding both relation
  steps_are s a t = elim (dec_lt a actions) [
    | yes h ↦ rw (lt-ltb a actions h) (row_is s a t h)
    | no h ↦ rw (le-ltb a actions (omega arith)) (sym (no_step s a t (λ _ i _. h i)))
  ]

  -- a row is a set of states
  row_set : (s a : ℕ) → a < actions → get_or steps (8 * s + a) 0 ≡ set_of (length c.labels) (listed c.steps s a)
  unfolding relation
  row_set s a h =
      let n : ℕ = length c.labels in
      let p : ℕ → Bool = listed c.steps s a in
      set_ext 16 _ _ (rows.small (8 * s + a)) (omega (arith, set_of_lt n p, pow_mono {i = n} {j = 16} valid.few)) (λ t k.
      row_is s a t h ∙ elim (dec_lt t n) [
        | yes l ↦ sym (has-set_of n p t l)
        | no l ↦ no_step s a t (λ _ _ i. l i) ∙ sym (has_beyond n _ t (set_of_lt n p) (omega arith))
      ])

  pub within : {n : ℕ} → n ≡ length c.labels → Within n steps
  within e s a h = rw (row_set s a h, e) (set_of_lt (length c.labels) (listed c.steps s a))

pub drawn : {c : Case} (valid : ValidTable most_states c) (g : Graph) → g.states ≡ length c.labels
    → ((s : ℕ) → get_or g.labels s 0 ≡ bit_and (get_or c.labels s 0) (looked c).props) → g.acts ≡ (looked c).acts → StepRows c.steps g.successors → Drawn c g
unfolding table reduct
drawn valid g states labels acts rows = record {
  is = λ i. record { n = states i; label = λ s. labels s i; step = λ s a t. both (has (acts i) a) (steps_are valid rows s a t i) };
}
