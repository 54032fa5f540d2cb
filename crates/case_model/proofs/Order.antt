-- Lists in rising order: what the test of one element says, and how long a list of rising numbers can be.
-- The test is taken apart; the element at place i is at least i.
use Prim.Native.Nat.{ℕ, zero, suc, ◌-◌, ◌≤◌, ◌<◌}
use mathlib.Core.Bool.{Bool, true, false, ◌||◌, not, or-true}
use mathlib.Core.Path.{◌≡◌, refl, ap}
use native.Mathlib.Decide.{dec_lt}
use native.Mathlib.Omega.{arith}
use borrow.Author.Tests.{not-false, ne_eqb}
use lib.Dec.{eqb}
use Rattle.case_model.specs.Rows.{out_of_order}
use Rattle.case_model.proofs.Tests.{and_l, and_r}

-- from a test that says what is wrong to each part of what is right
ruleset tests = (not-false, and_l, and_r)

module _ {A : Type 0} (in_range : A → Bool) (after : A → A → Bool) (l : ℕ → A) where
  pub order_in : (i : ℕ) → out_of_order in_range after l i ≡ false → in_range (l i) ≡ true
  order_in i e = search tests

  pub order_next : (i : ℕ) → out_of_order in_range after l (suc i) ≡ false → after (l i) (l (suc i)) ≡ true
  order_next i e =
      let r : (eqb (suc i) 0 || after (l (suc i - 1)) (l (suc i))) ≡ true = search tests in
      let p : suc i - 1 ≡ i = omega arith in
      let z : eqb (suc i) 0 ≡ false = ne_eqb (suc i) 0 (λ q. omega arith) in
      rw (p, z) at r

  -- and back
  pub in_order_lem : (k : ℕ) → ((i : ℕ) → i < k → in_range (l i) ≡ true) → ((i : ℕ) → suc i < k → after (l i) (l (suc i)) ≡ true)
      → (i : ℕ) → i < k → out_of_order in_range after l i ≡ false
  in_order_lem k range next i h = rw (range i h) (ap not (go i h))
    where
      go : (i : ℕ) → i < k → (eqb i 0 || after (l (i - 1)) (l i)) ≡ true
      go zero h = refl
      go (suc i) h =
          let p : suc i - 1 ≡ i = omega arith in
          rw (p, next i h, or-true)

-- ---- numbers
module _ (h : ℕ → ℕ) (k : ℕ) (next : (i : ℕ) → suc i < k → h i < h (suc i)) where
  least : (i : ℕ) → i < k → i ≤ h i
  least zero l = omega arith
  least (suc i) l = omega (arith, least i (omega arith), next i l)

  -- k of them that rise and are below b
  pub rising_few : (b : ℕ) → ((i : ℕ) → i < k → h i < b) → k ≤ b
  rising_few b small = elim (dec_lt 0 k) [ yes l ↦ omega (arith, least (k - 1) (omega arith), small (k - 1) (omega arith)) | no l ↦ omega arith ]
