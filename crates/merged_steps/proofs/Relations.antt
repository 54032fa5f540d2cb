-- The steps of a relation by their numbers: carried over to the merged case one by one, counted, and written in order.
-- Whether a moved step is listed depends on which steps are listed, and not on their order; so a turn may put its step in front or behind.
use mathlib.Core.Bool.{Bool, true, false}
use mathlib.Core.List.{List, [], ◌∷◌, ◌++◌, append-nil}
use mathlib.Core.Path.{◌≡◌, refl, sym, ap, ◌∙◌, subst}
use Prim.Native.Nat.{ℕ, ◌+◌, ◌*◌, ◌/◌, ◌%◌, ◌≤◌, ◌<◌}
use native.Mathlib.Numerals.{add-one}
use native.Mathlib.Omega.{arith}
use borrow.Author.Tests.{eq-eqb, ne_eqb}
use lib.Dec.{T}
use lib.ListN.{length, get_or, replicate}
use Rattle.flc.specs.Sets.{either, has}
use Rattle.flc.proofs.Tests.{bool_ext}
use Rattle.case_model.specs.Limits.{most_states}
use Rattle.case_model.specs.Case.{Case, flat, listed}
use Rattle.case_model.specs.Kinds.{Triple}
use Rattle.case_model.specs.Merging.{moved, moved_steps, chosen, numbered, selected, is_step, in_order}
use Rattle.case_model.specs.Valid.{ValidTable}
use Rattle.case_model.proofs.Codec.{length-flat, flat_append}
use Rattle.case_model.proofs.Selected.{selected_ext, selected_more, selected_few, selected_room}
use Rattle.case_model.proofs.Steps.{listed_in}
use Rattle.case_model.proofs.StepOrder.{listed-in_order}
use Rattle.case_model.proofs.MovedStates.{moved_steps_use, moved_steps_mk}
use Rattle.case_reader.specs.StepRows.{relation, marked, StepRows}
use Rattle.case_reader.proofs.Marking.{marks_none, marks_more}
use Rattle.case_reader.specs.Read.{triple}
use Rattle.case_reader.specs.declared.parts.Triple as code
use Rattle.case_writer.specs.Writing.{Writes}
use Rattle.case_writer.specs.declared.output.Output.{Output}
use Rattle.case_writer.proofs.Runs.{writes_none, writes_after, writes_as}

-- ---- lists of the same steps
abbrev Same : List Triple → List Triple → Type 0
Same l m = (s a t : ℕ) → listed l s a t ≡ listed m s a t

steps_same : {l m : List Triple} {rows : List ℕ} → Same l m → StepRows l rows → StepRows m rows
steps_same e R = record { long = R.long; small = R.small; is = λ s a t hs ha ht. R.is s a t hs ha ht ∙ e s a t }

either_swap : (a b c : Bool) → either a (either b c) ≡ either b (either a c)
unfolding either
either_swap true true c = refl
either_swap true false c = refl
either_swap false b c = refl

-- a step in front or behind
same_behind : (l : List Triple) (y : Triple) → Same (y ∷ l) (l ++ (y ∷ []))
unfolding listed
same_behind [] y s a t = refl
same_behind (x ∷ l) y s a t = either_swap _ _ (listed l s a t) ∙ ap (either _) (same_behind l y s a t)

pub numbered_is : {t : code.Triple} (x : ℕ) → (t.0 ≡ x / 128) × (t.1 ≡ x / 16 % 8) × (t.2 ≡ x % 16) → triple t ≡ numbered x
numbered_is x e = cc

module _ (k r : ℕ) where
  moved_use : (l m : List Triple) → Same l m → (u a w : ℕ) → T (listed (moved_steps k r l) u a w) → T (listed (moved_steps k r m) u a w)
  moved_use l m e u a w h =
      let (t, q, v) = moved_steps_use k r l u a w h in
      subst (λ z. T (listed (moved_steps k r m) u a z)) q (moved_steps_mk k r m u a t (subst T (e _ a t) v))

  moved_same : (l m : List Triple) → Same l m → Same (moved_steps k r l) (moved_steps k r m)
  moved_same l m e u a w = bool_ext _ _ (moved_use l m e u a w) (moved_use m l (λ s b t. sym (e s b t)) u a w)

  -- ---- the steps of the merged case, carried over one by one
  pub carried_none : (step : ℕ → ℕ → ℕ → Bool) → StepRows (moved_steps k r (in_order 0 step)) (replicate 128 0)
  unfolding moved_steps in_order selected
  carried_none step = marks_none false []

  -- one turn, by whether the triple is a step and which state it leaves
  module _ (step : ℕ → ℕ → ℕ → Bool) (x : ℕ) {rows : List ℕ} (R : StepRows (moved_steps k r (in_order x step)) rows) where
    pub no_step : is_step step x ≡ false → StepRows (moved_steps k r (in_order (x + 1) step)) rows
    unfolding in_order selected
    no_step e = rw (add-one x, e, append-nil (in_order x step)) R

    module _ (e : is_step step x ≡ true) (t : code.Triple) (n : triple t ≡ numbered x) where
      added : {next : List ℕ} → StepRows (moved_steps k r (numbered x ∷ in_order x step)) next → StepRows (moved_steps k r (in_order (x + 1) step)) next
      unfolding in_order selected
      added P =
          rw (add-one x, e)
          (steps_same (moved_same (numbered x ∷ in_order x step) (in_order x step ++ (numbered x ∷ [])) (same_behind (in_order x step) (numbered x))) P)

      pub step_dropped : t.0 ≡ r → StepRows (moved_steps k r (in_order (x + 1) step)) rows
      unfolding moved_steps
      step_dropped q = added (rw (eq-eqb (numbered x).0 r (omega (arith, ap (λ (t : Triple). t.0) n))) R)

      pub step_carried : (t.0 ≡ r → ⊥) → StepRows (moved_steps k r (in_order (x + 1) step)) (marked rows (moved k r t.0, t.1, moved k r t.2))
      unfolding moved_steps
      step_carried q =
          added (subst (λ (y : Triple). StepRows (moved_steps k r (numbered x ∷ in_order x step)) (marked rows (moved k r y.0, y.1, moved k r y.2))) (sym n)
          (rw (ne_eqb (numbered x).0 r (λ z. q (ap (λ (t : Triple). t.0) n ∙ z)))
          (marks_more R (moved k r (numbered x).0, (numbered x).1, moved k r (numbered x).2))))

-- ---- the steps in order
pub rows_order : {l : List Triple} {rows : List ℕ} → StepRows l rows → in_order 2048 (relation rows) ≡ in_order 2048 (listed l)
unfolding in_order
rows_order {l} {rows} R = selected_ext 2048 _ _ numbered (λ x h. R.is (x / 128) (x / 16 % 8) (x % 16) (omega arith) (omega arith) (omega arith))

-- what is carried over from the rows of a valid case's steps is what is moved of the steps
pub carried_all : {c : Case} → ValidTable most_states c → (k r : ℕ) {rows next : List ℕ} → StepRows c.steps rows
    → StepRows (moved_steps k r (in_order 2048 (relation rows))) next → StepRows (moved_steps k r c.steps) next
carried_all {c} valid k r {rows} R = steps_same (moved_same k r (in_order 2048 (relation rows)) c.steps (λ s a t.
    ap (λ l. listed l s a t) (rows_order R)
    ∙ listed-in_order (listed c.steps) (length c.labels) valid.few (listed_in valid) s a t))

-- the row of the triple numbered x is x / 16
pub told : (rows : List ℕ) (x : ℕ) {b : Bool} → b ≡ has (get_or rows (x / 16) 0) (x % 16) → b ≡ is_step (relation rows) x
unfolding relation
told rows x e =
    let q : x / 16 ≡ 8 * (x / 128) + x / 16 % 8 = omega arith in
    e ∙ ap (λ i. has (get_or rows i 0) (x % 16)) q

pub order_few : (step : ℕ → ℕ → ℕ → Bool) (x : ℕ) → length (in_order x step) ≤ x
unfolding in_order
order_few step = selected_few (is_step step) numbered

-- ---- one turn of writing, for which there is room
module _ (step : ℕ → ℕ → ℕ → Bool) (x : ℕ) {o p : Output} (w : Writes o p (flat (in_order x step))) where
  turn : (b : Bool) {q : Output} → is_step step x ≡ b → Writes p q (flat (chosen b (numbered x))) → Writes o q (flat (in_order (x + 1) step))
  unfolding in_order
  turn b {q} e v =
      rw (selected_more (is_step step) numbered x, flat_append (in_order x step), e) (writes_after w v)

  pub step_written : {q : Output} (t : code.Triple) → is_step step x ≡ true → triple t ≡ numbered x → Writes p q (flat (triple t ∷ []))
      → Writes o q (flat (in_order (x + 1) step))
  step_written t e n v = turn true e (writes_as (ap (λ (t : Triple). flat (t ∷ [])) n) v)

  pub none_written : is_step step x ≡ false → Writes o p (flat (in_order (x + 1) step))
  none_written e = turn false e (writes_none p)

  pub turn_room : x < 2048 → o.at + 3 * length (in_order 2048 step) ≤ length o.area.now → is_step step x ≡ true → p.at + 3 ≤ length p.area.now
  unfolding in_order
  turn_room h room e =
      let n : length (chosen (is_step step x) (numbered x)) ≡ 1 = ap (λ b. length (chosen b (numbered x))) e in
      omega (arith, w.laid.ends, w.laid.long, selected_room (is_step step) numbered x 2048 h, length-flat (in_order x step))
