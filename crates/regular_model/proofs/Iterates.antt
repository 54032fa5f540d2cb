-- The iterates of a monotone map on the sets of n states. From a set below its image they rise, and stand still after n at the latest, since each one before
-- adds a state. From no states (for ν: from all) they come to the least (greatest) fixed point, and so they do from any set that is below its image and
-- below that fixed point. Both orders at once, by the flag.
use mathlib.Core.Path.{◌≡◌, ap, subst}
use mathlib.Core.Bool.{Bool, true, false, not}
use mathlib.Core.Logic.{◌⊎◌, inl, inr}
use Prim.Native.Nat.{ℕ, zero, suc, ◌^◌, ◌≤◌, ◌<◌}
use native.Mathlib.Nat.{le_of_suc-le-suc, le_trans}
use native.Mathlib.Decide.{ℕ_discrete, le_ind}
use native.Mathlib.Omega.{arith}
use lib.Dec.{T}
use Rattle.flc.specs.Iterates.{iterate}
use Rattle.flc.specs.Order.{In, Sub, Good}
use Rattle.flc.proofs.Masks.{has-set_of, set_of_lt}
use Rattle.flc.proofs.Order.{sub_antisym, good_mono}
use Rattle.flc.proofs.Weight.{members, members_max, members_le, members_eq}
use Rattle.regular_model.specs.Values.{begin, Climbing}
use Rattle.regular_model.proofs.Examples as examples

-- ---- the order of sets
pub sub_refl : (d : Bool) (n x y : ℕ) → x ≡ y → Sub d n x y
sub_refl d n x y e s k t = subst (λ z. In d z s) e t

pub sub_trans : (d : Bool) (n x y z : ℕ) → Sub d n x y → Sub d n y z → Sub d n x z
sub_trans d n x y z h k s l t = k s l (h s l t)

-- the set that a binder begins with is below every other
pub begin_small : (d : Bool) (n : ℕ) → begin d n < 2 ^ n
unfolding begin
begin_small d n = set_of_lt n _

begin_low : (d : Bool) (n y : ℕ) → Sub d n (begin d n) y
unfolding begin
begin_low true n y s k t = absurd (subst T (has-set_of n _ s k) t)
begin_low false n y s k t = absurd (subst (λ b. T (not b)) (has-set_of n _ s k) t)

-- ---- iterates
pub iterated_small : {n : ℕ} {F : ℕ → ℕ} → Good n F → (k s : ℕ) → s < 2 ^ n → iterate F s k < 2 ^ n
unfolding iterate
iterated_small G zero s i = i
iterated_small {n} {F} G (suc k) s i = G.small (iterate F s k) (iterated_small G k s i)

-- greater for a greater map and a greater set to begin with
pub iterated_mono : {n : ℕ} {F H : ℕ → ℕ} → Good n F → Good n H → ((x : ℕ) → x < 2 ^ n → Sub true n (F x) (H x))
    → (k s t : ℕ) → s < 2 ^ n → t < 2 ^ n → Sub true n s t → Sub true n (iterate F s k) (iterate H t k)
unfolding iterate
iterated_mono G K u zero s t i j h = h
iterated_mono {n} {F} {H} G K u (suc k) s t i j h =
    let a : iterate F s k < 2 ^ n = iterated_small G k s i in
    sub_trans true n _ (H (iterate F s k)) _ (u _ a) (K.mono _ _ a (iterated_small K k t j) (iterated_mono G K u k s t i j h))

-- ---- they rise, and stand still
module _ (d : Bool) {n : ℕ} {F : ℕ → ℕ} (G : Good n F) (s : ℕ) (i : s < 2 ^ n) (h : Sub d n s (F s)) where
  abbrev I : ℕ → ℕ
  I = iterate F s

  pub iterated_rises : (k : ℕ) → Sub d n (iterate F s k) (iterate F s (suc k))
  unfolding iterate
  iterated_rises zero = h
  iterated_rises (suc k) = good_mono d G (I k) (I (suc k)) (iterated_small G k s i) (iterated_small G (suc k) s i) (iterated_rises k)

  abbrev Still : ℕ → Type 0
  Still k = I (suc k) ≡ I k

  same : (k : ℕ) → Sub d n (I (suc k)) (I k) → Still k
  same k u = sub_antisym d n _ _ (iterated_small G (suc k) s i) (iterated_small G k s i) u (iterated_rises k)

  -- by the k-th they stand still, or each has added a state
  look : (k : ℕ) → ((j : ℕ) × (j < k) × Still j) ⊎ (k ≤ members d n (I k))
  look zero = inr (omega arith)
  look (suc k) = go (look k) (ℕ_discrete (members d n (I k)) (members d n (I (suc k))))
    where
      go : ((j : ℕ) × (j < k) × Still j) ⊎ (k ≤ members d n (I k)) → Dec (members d n (I k) ≡ members d n (I (suc k)))
          → ((j : ℕ) × (j < suc k) × Still j) ⊎ (suc k ≤ members d n (I (suc k)))
      go (inl w) e = inl (w.0, omega arith, w.2)
      go (inr l) (yes e) = inl (k, omega arith, same k (members_eq d n (I k) (I (suc k)) (iterated_rises k) e))
      go (inr l) (no e) = inr (omega (arith, members_le d n (I k) (I (suc k)) (iterated_rises k)))

  -- more than n states there are not
  pub iterated_settled : (k : ℕ) → n ≤ k → F (iterate F s k) ≡ iterate F s k
  unfolding iterate
  iterated_settled k l = go (look (suc n))
    where
      go : ((j : ℕ) × (j < suc n) × Still j) ⊎ (suc n ≤ members d n (I (suc n))) → F (I k) ≡ I k
      go (inl w) = le_ind (λ m. F (I m) ≡ I m) w.2 (λ m k e. ap F e) k (le_trans (le_of_suc-le-suc w.1) l)
      go (inr u) = absurd (omega (arith, members_max d n (I (suc n))))

-- ---- the fixed point: the least for the flag true, the greatest for false
abbrev settled : Bool → ℕ → (ℕ → ℕ) → ℕ
settled d n F = iterate F (begin d n) n

module _ (d : Bool) {n : ℕ} {F : ℕ → ℕ} (G : Good n F) where
  settled_small : settled d n F < 2 ^ n
  settled_small = iterated_small G n (begin d n) (begin_small d n)

  pub settled_fixed : F (iterate F (begin d n) n) ≡ iterate F (begin d n) n
  settled_fixed = iterated_settled d G (begin d n) (begin_small d n) (begin_low d n _) n (omega arith)

  -- below every set that is above its image
  settled_least : (y : ℕ) → y < 2 ^ n → Sub d n (F y) y → Sub d n (settled d n F) y
  unfolding iterate
  settled_least y j h = go n
    where
      go : (k : ℕ) → Sub d n (iterate F (begin d n) k) y
      go zero = begin_low d n y
      go (suc k) = sub_trans d n _ (F y) y (good_mono d G _ y (iterated_small G k (begin d n) (begin_small d n)) j (go k)) h

  -- where a binder begins, it may begin
  pub begin_climbing : Climbing d n F (begin d n)
  begin_climbing = record { small = begin_small d n; first = begin_low d n _; low = begin_low d n _ }

  module _ (s : ℕ) (C : Climbing d n F s) where
    climbing_low : (k : ℕ) → Sub d n (iterate F s k) (settled d n F)
    unfolding iterate
    climbing_low zero = C.low
    climbing_low (suc k) =
        sub_trans d n _ (F (settled d n F)) _
        (good_mono d G _ _ (iterated_small G k s C.small) settled_small (climbing_low k)) (sub_refl d n _ _ settled_fixed)

    -- where the iterates stand still they are the fixed point
    pub climbing_stops : (k : ℕ) → F (iterate F s k) ≡ iterate F s k → iterate F s k ≡ iterate F (begin d n) n
    climbing_stops k e =
        sub_antisym d n _ _ (iterated_small G k s C.small) settled_small (climbing_low k)
        (settled_least _ (iterated_small G k s C.small) (sub_refl d n _ _ e))
