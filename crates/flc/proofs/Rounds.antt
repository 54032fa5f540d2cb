-- Iterates that rise stand still after n * 2 ^ n rounds at the latest, and so do approximants, so that one of them is the fixed point; rounds is the first.
-- Each round before that adds to the weight.
use mathlib.Core.Path.{◌≡◌, subst}
use mathlib.Core.Bool.{Bool}
use mathlib.Core.Logic.{◌⊎◌, inl, inr}
use Prim.Native.Nat.{ℕ, zero, suc, ◌*◌, ◌^◌, ◌≤◌, ◌<◌, zero-le}
use native.Mathlib.Nat.{le_of_suc-le-suc, le_trans}
use native.Mathlib.Decide.{ℕ_discrete, dec_lt, le_ind}
use native.Mathlib.Omega.{arith}
use Rattle.flc.specs.Functions.{Fun, agree, approximant, rounds}
use Rattle.flc.proofs.Tests.{first_le, first_passes, first_least}
use Rattle.flc.proofs.Order.{below_antisym, agree_use, agree_mk}
use Rattle.flc.specs.Order.{Below, Agree}
use Rattle.flc.proofs.Weight.{weight, weight_le, weight_max, weight_eq}
use Rattle.flc.specs.Iterates.{fixed, iterate, Rising}
use Rattle.flc.proofs.FixedPoints.{Steady, steady_rises, iterate_good, iterate-rises, iterate_fixed, approx_iterate, approx_rising}

-- ---- iterates that rise
module _ (d : Bool) {n : ℕ} {F : Fun → Fun} (S : Steady n F) {x : Fun} (R : Rising d n F x) where
  abbrev I : ℕ → Fun
  I = iterate F x

  -- the next is below it too, and then so on
  abbrev Still : ℕ → Type 0
  Still k = Below d n (I (suc k)) (I k)

  still_suc : (k : ℕ) → Still k → Still (suc k)
  unfolding iterate
  still_suc k h = steady_rises d S (I (suc k)) (I k) (iterate_good d S R (suc k)) (iterate_good d S R k) h

  -- by round k they stand still, or each round has added to the weight
  look : (k : ℕ) → ((j : ℕ) × (j < k) × Still j) ⊎ (k ≤ weight d n (I k))
  look zero = inr (omega arith)
  look (suc k) = go (look k) (ℕ_discrete (weight d n (I k)) (weight d n (I (suc k))))
    where
      go : ((j : ℕ) × (j < k) × Still j) ⊎ (k ≤ weight d n (I k)) → Dec (weight d n (I k) ≡ weight d n (I (suc k)))
          → ((j : ℕ) × (j < suc k) × Still j) ⊎ (suc k ≤ weight d n (I (suc k)))
      go (inl w) e = inl (w.0, omega arith, w.2)
      go (inr h) (yes e) = inl (k, omega arith, weight_eq d n (I k) (I (suc k)) (iterate-rises d S R k) e)
      go (inr h) (no e) = inr (omega (arith, weight_le d n (I k) (I (suc k)) (iterate-rises d S R k)))

  -- a weight above n * 2 ^ n there is not
  pub settled : (k : ℕ) → n * 2 ^ n ≤ k → Agree n (iterate F x k) (iterate F x (suc k))
  settled k l =
      below_antisym d (iterate_good d S R k) (iterate_good d S R (suc k)) (iterate-rises d S R k) (go (look (suc (n * 2 ^ n))))
    where
      go : ((j : ℕ) × (j < suc (n * 2 ^ n)) × Still j) ⊎ (suc (n * 2 ^ n) ≤ weight d n (I (suc (n * 2 ^ n)))) → Still k
      go (inl w) = le_ind (λ m. Still m) w.2 (λ m k h. still_suc m h) k (le_trans (le_of_suc-le-suc w.1) l)
      go (inr h) = absurd (omega (arith, weight_max d n (I (suc (n * 2 ^ n)))))

-- ---- approximants
module _ (d : Bool) {n : ℕ} {F : Fun → Fun} (S : Steady n F) where
  abbrev A : ℕ → Fun
  A = approximant d n F

  stand : (k : ℕ) → n * 2 ^ n ≤ k → Agree n (A k) (A (suc k))
  stand k l = subst (λ A. Agree n (A k) (A (suc k))) (approx_iterate d n F) (settled d S (approx_rising d) k l)

  -- the fixed point is any late one
  pub fixed_late : (k : ℕ) → n * 2 ^ n ≤ k → Agree n (fixed d n F) (approximant d n F k)
  fixed_late k l =
      subst (λ A. Agree n (fixed d n F) (A k)) (approx_iterate d n F)
      (iterate_fixed d S (approx_rising d) k (settled d S (approx_rising d) k l))

  -- ---- rounds is the first at which they stand still

  -- it is at most n * 2 ^ n
  pub rounds_le : rounds d n F ≤ n * 2 ^ n
  unfolding rounds
  rounds_le = omega (arith, first_le (λ k. agree n (A k) (A (suc k))) 0 (n * 2 ^ n))

  -- they stand still there
  pub rounds_stand : Agree n (approximant d n F (rounds d n F)) (approximant d n F (suc (rounds d n F)))
  unfolding rounds
  rounds_stand =
      agree_use n _ _ (first_passes (λ k. agree n (A k) (A (suc k))) 0 (n * 2 ^ n) (n * 2 ^ n) zero-le (omega arith)
      (agree_mk n _ _ (stand (n * 2 ^ n) (omega arith))))

  -- and not before
  pub rounds-first : (k : ℕ) → k < rounds d n F → Agree n (approximant d n F k) (approximant d n F (suc k)) → ⊥
  unfolding rounds
  rounds-first k h e = first_least (λ k. agree n (A k) (A (suc k))) 0 (n * 2 ^ n) k zero-le h (agree_mk n _ _ e)

  -- whoever finds the first round at which they stand still has found rounds
  pub rounds_unique : (k : ℕ) → Agree n (approximant d n F k) (approximant d n F (suc k))
      → ((j : ℕ) → j < k → Agree n (approximant d n F j) (approximant d n F (suc j)) → ⊥) → k ≡ rounds d n F
  rounds_unique k e h = go (dec_lt k (rounds d n F)) (dec_lt (rounds d n F) k)
    where
      go : Dec (k < rounds d n F) → Dec (rounds d n F < k) → k ≡ rounds d n F
      go (yes l) r = absurd (rounds-first k l e)
      go (no l) (yes g) = absurd (h (rounds d n F) g rounds_stand)
      go (no l) (no g) = omega arith
