-- The state table that a plan has is that of the case, if its sets are those of the labels and of the steps turned round.
-- A label is the set of its propositions; a row of the turned steps is the set of the sources, and all steps of a valid case have a place there.
use Prim.Native.Nat.{ℕ, ◌+◌, ◌*◌, ◌/◌, ◌%◌, ◌^◌, ◌<◌}
use mathlib.Core.Bool.{true, false}
use mathlib.Core.List.{List}
use mathlib.Core.Path.{◌≡◌, sym, ap, ◌∙◌, subst}
use native.Mathlib.Decide.{dec_lt}
use native.Mathlib.Omega.{arith}
use borrow.Author.Tests.{lt-ltb, le-ltb}
use lib.ListN.{length, get_or, get_or-eq_default}
use lib.Pow.{pow_mono}
use Rattle.flc.specs.Sets.{both, has, set_of}
use Rattle.flc.specs.Formula.{actions}
use Rattle.flc.proofs.Masks.{has-set_of, has_beyond, set_of_lt, set_of_ext, set_of-has, set_of-none, set_ext}
use Rattle.case_model.specs.Limits.{most_states, propositions}
use Rattle.case_model.specs.Case as model
use Rattle.case_model.specs.Case.{Case, listed}
use Rattle.case_model.specs.Valid.{ValidTable}
use Rattle.case_model.proofs.Tests.{is_false}
use Rattle.case_model.proofs.Steps.{listed_in}
use Rattle.case_reader.specs.StepRows.{relation, steps_read, StepRows}
use Rattle.case_reader.proofs.Marking.{listed_turned}
use Rattle.case_plan.specs.Plans.{Plan, table_of}
use Rattle.case_plan.specs.Parts.{labelled}

module _ {c : Case} (valid : ValidTable most_states c) (bytes : (s : ℕ) → get_or c.labels s 0 < 256) (p : Plan)
    (states : p.states ≡ length c.labels)
    (props : (i : ℕ) → i < propositions → p.props i ≡ labelled c (length c.labels) i)
    {rows : List ℕ} (R : StepRows (steps_read true c.steps) rows) (sources : (k : ℕ) → k < 128 → p.sources k ≡ get_or rows k 0) where
  labels_are : (s : ℕ) → set_of propositions (λ i. has (p.props i) s) ≡ get_or c.labels s 0
  labels_are s = elim (dec_lt s (length c.labels)) [
    | yes h ↦
        set_of_ext propositions _ (has (get_or c.labels s 0)) (λ i l. ap (λ x. has x s) (props i l) ∙ has-set_of (length c.labels) _ s h)
        ∙ set_of-has propositions _ (bytes s)
    | no h ↦
        set_of_ext propositions _ (λ i. false)
        (λ i l. ap (λ x. has x s) (props i l) ∙ has_beyond (length c.labels) _ s (set_of_lt (length c.labels) _) (omega arith))
        ∙ set_of-none propositions ∙ sym (get_or-eq_default c.labels 0 {n = s} (omega arith))
  ]

  -- what is out of range is no step
  no_step : (s a t : ℕ) → (s < length c.labels → a < actions → t < length c.labels → ⊥) → listed c.steps s a t ≡ false
  no_step s a t n = is_false _ (λ u. let r = listed_in valid s a t u in n r.from r.action r.to)

  -- any state s in the sources of state t by action a
  row_is : (s a t : ℕ) → a < actions → t < most_states → has (p.sources (8 * t + a)) s ≡ listed c.steps s a t
  unfolding relation
  row_is s a t h k = ap (λ x. has x s) (sources (8 * t + a) (omega arith)) ∙ elim (dec_lt s most_states) [
    | yes l ↦ R.is t a s k h l ∙ listed_turned c.steps s a t
    | no l ↦ has_beyond 16 _ s (R.small (8 * t + a)) (omega arith) ∙ sym (no_step s a t (λ i _ _. omega (arith, valid.few)))
  ]

  steps_are : (s a t : ℕ) → (table_of p).step s a t ≡ listed c.steps s a t
  unfolding both
  steps_are s a t = elim (dec_lt a actions) [
    | no h ↦ rw (le-ltb a actions (omega arith)) (sym (no_step s a t (λ _ i _. h i)))
    | yes h ↦ elim (dec_lt t most_states) [
      | yes k ↦ rw (lt-ltb a actions h, lt-ltb t most_states k) (row_is s a t h k)
      | no k ↦ rw (lt-ltb a actions h, le-ltb t most_states (omega arith)) (sym (no_step s a t (λ _ _ i. omega (arith, valid.few))))
    ]
  ]

  pub table_is : table_of p ≡ model.table c
  unfolding model.table
  table_is = λ i. record { n = states i; label = λ s. labels_are s i; step = λ s a t. steps_are s a t i }

  -- the sources are states
  pub source_small : (k : ℕ) → k < 128 → p.sources k < 2 ^ length c.labels
  source_small k h =
      let n : ℕ = length c.labels in
      let x : ℕ = p.sources k in
      let e : 8 * (k / 8) + k % 8 ≡ k = omega arith in
      let l : set_of n (has x) < 2 ^ n = set_of_lt n (has x) in
      let out : (s : ℕ) → (s < n → ⊥) → has x s ≡ false =
      λ s o. ap (λ k. has (p.sources k) s) (sym e) ∙ row_is s (k % 8) (k / 8) (omega arith) (omega arith) ∙ no_step s (k % 8) (k / 8) (λ i _ _. o i) in
      let is : x ≡ set_of n (has x) = set_ext 16 x (set_of n (has x)) (rw (sources k h) (R.small k)) (omega (arith, l, pow_mono {i = n} {j = 16} valid.few))
      (λ s _. elim (dec_lt s n) [ yes i ↦ sym (has-set_of n (has x) s i) | no i ↦ out s i ∙ sym (has_beyond n _ s l (omega arith)) ]) in
      subst (λ y. y < 2 ^ n) (sym is) l
