-- Steps put in order: `inOrder` lists just the steps of its relation, and a case with such steps passes row 3.
-- The steps are selected by the numbers of triples, so each has a place there, and their numbers rise.
use Prim.Native.Nat.{ℕ, zero, suc, ◌/◌, ◌%◌, ◌≤◌, ◌<◌}
use mathlib.Core.Bool.{Bool, false}
use mathlib.Core.List.{List, [], ◌∷◌}
use mathlib.Core.Path.{◌≡◌, sym, ◌∙◌, subst}
use native.Mathlib.Nat.{not-suc-le-zero, le_of_suc-le-suc}
use native.Mathlib.Omega.{arith}
use borrow.Author.Tests.{lt-ltb}
use lib.Dec.{T, eqb_refl}
use lib.ListN.{length}
use Rattle.flc.proofs.Tests.{bool_ext, both_mk, either_left, either_right}
use Rattle.case_model.specs.Case.{Case, listed, at}
use Rattle.case_model.specs.Kinds.{Triple}
use Rattle.case_model.specs.Rows.{rises, step_fits, step_wrong}
use Rattle.case_model.specs.Merging.{numbered, is_step, in_order}
use Rattle.case_model.proofs.Order.{in_order_lem}
use Rattle.case_model.proofs.Selected.{selected_next, selected_use, selected_mk}
use Rattle.case_model.proofs.Steps.{InRange, number, number-rises, listed_at}

-- the triple at a place is listed
at_listed : (l : List Triple) (i : ℕ) → i < length l → T (listed l (at l i).0 (at l i).1 (at l i).2)
unfolding listed
at_listed [] i h = absurd (not-suc-le-zero h)
at_listed (x ∷ l) zero h = either_left _ _ (both_mk _ _ (eqb_refl x.0) (both_mk _ _ (eqb_refl x.1) (eqb_refl x.2)))
at_listed (x ∷ l) (suc i) h = either_right _ _ (at_listed l i (le_of_suc-le-suc h))

-- ---- a relation's steps
number_back : (x : ℕ) → number (numbered x) ≡ x
number_back x = omega arith

module _ (step : ℕ → ℕ → ℕ → Bool) where
  abbrev steps : List Triple
  steps = in_order 2048 step

  -- in order
  pub in_order_next : (i : ℕ) → suc i < length steps → number (at steps i) < number (at steps (suc i))
  unfolding in_order
  in_order_next = selected_next (is_step step) numbered number number_back (0, 0, 0) 2048

  -- what is listed is a step
  at_step : (i : ℕ) → i < length steps → T (step (at steps i).0 (at steps i).1 (at steps i).2)
  unfolding in_order
  at_step i h =
      let (x, b, t, e) = selected_use (is_step step) numbered (0, 0, 0) 2048 i h in
      subst (λ (y : Triple). T (step y.0 y.1 y.2)) (sym e) t

  in_order_use : (s a t : ℕ) → T (listed steps s a t) → T (step s a t)
  in_order_use s a t h =
      let (i, k, e) = listed_at steps s a t h in
      subst (λ (y : Triple). T (step y.0 y.1 y.2)) e (at_step i k)

  -- a step in range is listed
  in_order_mk : (s a t : ℕ) → InRange 16 (s, a, t) → T (step s a t) → T (listed steps s a t)
  unfolding in_order
  in_order_mk s a t r u =
      let x : ℕ = number (s, a, t) in
      let p : x / 128 ≡ s = omega (arith, r.action, r.to) in
      let q : x / 16 % 8 ≡ a = omega (arith, r.action, r.to) in
      let w : x % 16 ≡ t = omega (arith, r.action, r.to) in
      let (i, k, e) = selected_mk (is_step step) numbered (0, 0, 0) 2048 x (omega (arith, r.from, r.action, r.to)) (rw (p, q, w) u) in
      let z : at steps i ≡ (s, a, t) = e ∙ (λ z. (p z, q z, w z)) in
      subst (λ (y : Triple). T (listed steps y.0 y.1 y.2)) z (at_listed steps i k)

  -- the list is the relation, where that is in range
  module _ (n : ℕ) (few : n ≤ 16) (range : (s a t : ℕ) → T (step s a t) → InRange n (s, a, t)) where
    pub listed-in_order : (s a t : ℕ) → listed steps s a t ≡ step s a t
    listed-in_order s a t = bool_ext _ _ (in_order_use s a t) (λ u.
        let r : InRange n (s, a, t) = range s a t u in
        in_order_mk s a t (record { from = omega arith; action = r.action; to = omega arith }) u)

    pub in_order_in : (i : ℕ) → i < length steps → InRange n (at steps i)
    in_order_in i h = range _ _ _ (at_step i h)

-- ---- row 3: steps in range and in order are right
pub steps_right : (c : Case) → length c.labels ≤ 16
    → ((i : ℕ) → i < length c.steps → InRange (length c.labels) (at c.steps i))
    → ((i : ℕ) → suc i < length c.steps → number (at c.steps i) < number (at c.steps (suc i)))
    → (i : ℕ) → i < length c.steps → step_wrong c i ≡ false
steps_right c few range next =
    in_order_lem (step_fits (length c.labels)) rises (at c.steps) (length c.steps)
    (λ i h. let r = range i h in rw (lt-ltb _ _ r.from, lt-ltb _ _ r.action, lt-ltb _ _ r.to))
    (λ i h. number-rises few _ _ (range i (omega arith)) (range (suc i) h) (next i h))
