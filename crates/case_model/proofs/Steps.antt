-- The steps of a valid case are in range and strictly rising, so there are at most 2048 of them.
-- A triple in range is ordered as its number, 128 from + 16 action + to, which is below 2048.
use Prim.Native.Nat.{ℕ, zero, suc, ◌+◌, ◌*◌, ◌≤◌, ◌<◌, suc-le-suc}
use mathlib.Core.Bool.{Bool, true, false, ◌&&◌, ◌||◌}
use mathlib.Core.List.{List, [], ◌∷◌}
use mathlib.Core.Path.{◌≡◌, refl, sym, subst}
use native.Mathlib.Decide.{dec_lt, ℕ_discrete}
use native.Mathlib.Nat.{not-suc-le-zero}
use native.Mathlib.Omega.{arith}
use borrow.Author.Tests.{eqb-true, ltb-true, lt-ltb, le-ltb, eq-eqb}
use lib.Dec.{T, eqb, ltb, eqb→eq}
use lib.ListN.{length}
use Rattle.flc.specs.Formula.{actions}
use Rattle.flc.proofs.Tests.{both_left, both_right, either_use}
use Rattle.case_model.specs.Limits.{most_states}
use Rattle.case_model.specs.Case.{Case, listed, at}
use Rattle.case_model.specs.Kinds.{Triple}
use Rattle.case_model.specs.Rows.{rises, step_fits}
use Rattle.case_model.proofs.Tests.{and_l, and_r}
use Rattle.case_model.proofs.Order.{order_in, order_next, rising_few}
use Rattle.case_model.specs.Valid.{ValidTable}

-- a step between n states
pub record InRange (n : ℕ) (x : Triple) : Type 0 where
  pub from : x.0 < n
  pub action : x.1 < actions
  pub to : x.2 < n

-- ---- the order
-- a number below 2048 for a triple of a case
abbrev pub number : Triple → ℕ
number x = 128 * x.0 + 16 * x.1 + x.2

-- one of two tests passed
or_use : {P : Type 0} (a b : Bool) → (a || b) ≡ true → (a ≡ true → P) → (b ≡ true → P) → P
or_use true b e f g = f refl
or_use false b e f g = g e

-- the order of triples in range is the order of their numbers
module _ {n : ℕ} (few : n ≤ 16) (x y : Triple) (rx : InRange n x) (ry : InRange n y) where
  pub rises-number : rises x y ≡ true → number x < number y
  rises-number e =
      or_use (ltb x.0 y.0) (eqb x.0 y.0 && (ltb x.1 y.1 || (eqb x.1 y.1 && ltb x.2 y.2))) e
      (λ l. omega (arith, ltb-true x.0 y.0 l))
      (λ e0. or_use (ltb x.1 y.1) (eqb x.1 y.1 && ltb x.2 y.2) (search and_r)
      (λ l. let p = eqb-true x.0 y.0 (search and_l) in omega (arith, ltb-true x.1 y.1 l))
      (λ e1.
      let p = eqb-true x.0 y.0 (search and_l) in
      let q = eqb-true x.1 y.1 (search and_l) in
      omega (arith, ltb-true x.2 y.2 (search and_r))))

  pub number-rises : number x < number y → rises x y ≡ true
  number-rises h = elim (dec_lt x.0 y.0) [
    | yes l ↦ rw (lt-ltb x.0 y.0 l)
    | no l ↦ rw (le-ltb x.0 y.0 (omega arith), eq-eqb x.0 y.0 (omega arith)) (elim (dec_lt x.1 y.1) [
      | yes k ↦ rw (lt-ltb x.1 y.1 k)
      | no k ↦ rw (le-ltb x.1 y.1 (omega arith), eq-eqb x.1 y.1 (omega arith), lt-ltb x.2 y.2 (omega arith))
    ])
  ]

-- ---- the steps of a valid case
-- a step in the list has a place there
pub listed_at : (l : List Triple) (s a t : ℕ) → T (listed l s a t) → (i : ℕ) × (i < length l) × (at l i ≡ (s, a, t))
unfolding listed
listed_at [] s a t h = absurd h
listed_at (x ∷ l) s a t h = either_use _ _
    (λ e.
    let r = both_right _ _ e in
    (0, omega arith, λ z. (eqb→eq x.0 s (both_left _ _ e) z, eqb→eq x.1 a (both_left _ _ r) z, eqb→eq x.2 t (both_right _ _ r) z)))
    (λ r. let (i, k, e) = listed_at l s a t r in (suc i, suc-le-suc k, e)) h

module _ {most : ℕ} {c : Case} (valid : ValidTable most c) where
  pub step_in : (i : ℕ) → i < length c.steps → InRange (length c.labels) (at c.steps i)
  step_in i h =
      let e : step_fits (length c.labels) (at c.steps i) ≡ true = order_in (step_fits (length c.labels)) rises (at c.steps) i (valid.steps i h) in
      record { from = ltb-true _ _ (search (and_l, and_r)); action = ltb-true _ _ (search (and_l, and_r)); to = ltb-true _ _ (search (and_l, and_r)) }

  -- a transition of the table
  pub listed_in : (s a t : ℕ) → T (listed c.steps s a t) → InRange (length c.labels) (s, a, t)
  listed_in s a t h = let (i, k, e) = listed_at c.steps s a t h in subst (InRange (length c.labels)) e (step_in i k)

-- their order, if there are at most 16 states
module _ {c : Case} (valid : ValidTable most_states c) where
  -- a step and the next
  pub step_next : (i : ℕ) → suc i < length c.steps → number (at c.steps i) < number (at c.steps (suc i))
  step_next i h =
      rises-number valid.few (at c.steps i) (at c.steps (suc i)) (step_in valid i (omega arith)) (step_in valid (suc i) h)
      (order_next (step_fits (length c.labels)) rises (at c.steps) i (valid.steps (suc i) h))

  pub numbers_rise : (i j : ℕ) → i < j → j < length c.steps → number (at c.steps i) < number (at c.steps j)
  numbers_rise i zero l h = absurd (not-suc-le-zero l)
  numbers_rise i (suc j) l h = elim (ℕ_discrete i j) [
    | yes e ↦ rw e (step_next j h)
    | no n ↦ omega (arith, numbers_rise i j (omega arith) (omega arith), step_next j h)
  ]

  -- an earlier step is strictly before a later one
  pub steps_rise : (i j : ℕ) → i < j → j < length c.steps → T (rises (at c.steps i) (at c.steps j))
  steps_rise i j l h =
      subst T (sym (number-rises valid.few _ _ (step_in valid i (omega arith)) (step_in valid j h) (numbers_rise i j l h))) tt

  pub steps_few : length c.steps ≤ 2048
  steps_few = rising_few (λ i. number (at c.steps i)) (length c.steps) step_next 2048 (λ i h. omega (arith, step_in valid i h, valid.few))
