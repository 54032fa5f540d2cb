-- Tests over finitely many numbers: what a passed test says, and how one is passed.
-- By cases on a Bool, or by induction on how many numbers there are.
use mathlib.Core.Path.{◌≡◌, refl}
use mathlib.Core.Bool.{Bool, true, false, not, cond}
use Prim.Native.Nat.{ℕ, zero, suc, ◌+◌, ◌-◌, ◌≤◌, ◌<◌}
use native.Mathlib.Nat.{not-suc-le-zero, sub-zero}
use native.Mathlib.Numerals.{add-one}
use native.Mathlib.Decide.{ℕ_discrete}
use native.Mathlib.Omega.{arith}
use lib.Dec.{T}
use Rattle.flc.specs.Sets.{both, either, implies, for_all, for_some, among, first}
-- so that the examples come first, and a slip in a definition is reported there
use Rattle.flc.proofs.Examples as examples

-- ---- connectives: `use`, `left`, `right` take a passed test apart, `mk` passes it

-- tests that pass together are equal
pub bool_ext : (a b : Bool) → (T a → T b) → (T b → T a) → a ≡ b
bool_ext true true h k = refl
bool_ext true false h k = absurd (h tt)
bool_ext false true h k = absurd (k tt)
bool_ext false false h k = refl

-- both
pub both_left : (a b : Bool) → T (both a b) → T a
unfolding both
both_left true b h = tt
both_left false b h = h

pub both_right : (a b : Bool) → T (both a b) → T b
unfolding both
both_right true b h = h
both_right false b h = absurd h

pub both_mk : (a b : Bool) → T a → T b → T (both a b)
unfolding both
both_mk true b h k = k
both_mk false b h k = h

-- either
pub either_left : (a b : Bool) → T a → T (either a b)
unfolding either
either_left true b h = tt
either_left false b h = absurd h

pub either_right : (a b : Bool) → T b → T (either a b)
unfolding either
either_right true b h = tt
either_right false b h = h

pub either_use {ℓ} : {P : Type ℓ} (a b : Bool) → (T a → P) → (T b → P) → T (either a b) → P
unfolding either
either_use true b f g h = f tt
either_use false b f g h = g h

-- implies
pub implies_use : (a b : Bool) → T (implies a b) → T a → T b
unfolding implies
implies_use true b h k = h
implies_use false b h k = absurd k

pub implies_mk : (a b : Bool) → (T a → T b) → T (implies a b)
unfolding implies
implies_mk true b h = h tt
implies_mk false b h = tt

-- not
pub not_not : (b : Bool) → not (not b) ≡ b
not_not true = refl
not_not false = refl

pub not_both : (a b : Bool) → not (both a b) ≡ implies a (not b)
unfolding both implies
not_both true b = refl
not_both false b = refl

-- ---- every number below n, and some

-- a number below suc n is below n, or it is n
last {ℓ} : (P : ℕ → Type ℓ) (n i : ℕ) → i < suc n → (i < n → P i) → P n → P i
last P n i h f p = elim (ℕ_discrete i n) [ yes e ↦ rw e p | no e ↦ f (omega arith) ]

-- of every number
pub for_all_use : (n : ℕ) (p : ℕ → Bool) → T (for_all n p) → (i : ℕ) → i < n → T (p i)
unfolding for_all
for_all_use zero p h i k = absurd (not-suc-le-zero k)
for_all_use (suc n) p h i k = last (λ i. T (p i)) n i k (for_all_use n p (both_left _ _ h) i) (both_right _ _ h)

pub for_all_mk : (n : ℕ) (p : ℕ → Bool) → ((i : ℕ) → i < n → T (p i)) → T (for_all n p)
unfolding for_all
for_all_mk zero p h = tt
for_all_mk (suc n) p h = both_mk _ _ (for_all_mk n p (λ i k. h i (omega arith))) (h n (omega arith))

-- of some number
pub for_some_use : (n : ℕ) (p : ℕ → Bool) → T (for_some n p) → (i : ℕ) × (i < n) × T (p i)
unfolding for_some
for_some_use zero p h = absurd h
for_some_use (suc n) p h =
    either_use _ _ (λ t. let (i, k, r) = for_some_use n p t in (i, omega arith, r)) (λ t. (n, omega arith, t)) h

pub for_some_mk : (n : ℕ) (p : ℕ → Bool) (i : ℕ) → i < n → T (p i) → T (for_some n p)
unfolding for_some
for_some_mk zero p i k t = absurd (not-suc-le-zero k)
for_some_mk (suc n) p i k t =
    last (λ i. T (p i) → T (either (for_some n p) (p n))) n i k (λ l t. either_left _ _ (for_some_mk n p i l t)) (either_right _ _) t

-- what does not hold of every number fails at some
pub for_all_fails : (n : ℕ) (p : ℕ → Bool) → T (not (for_all n p)) → (i : ℕ) × (i < n) × T (not (p i))
unfolding for_all
for_all_fails zero p h = absurd h
for_all_fails (suc n) p h =
    elim (for_all n p) as (λ b. (T (not b) → (i : ℕ) × (i < n) × T (not (p i))) → T (not (both b (p n))) → (i : ℕ) × (i < suc n) × T (not (p i)))
    [ true ↦ λ ih t. (n, omega arith, unfold both in t) | false ↦ λ ih t. let (i, k, r) = ih tt in (i, omega arith, r) ]
    (for_all_fails n p) h

-- ---- the connectives and quantifiers rise with their parts

-- a connective that rises with both its arguments
abbrev pub Rises : (Bool → Bool → Bool) → Type 0
Rises c = (a b a' b' : Bool) → (T a → T a') → (T b → T b') → T (c a b) → T (c a' b')

pub both-rises : Rises both
both-rises a b a' b' f g h = both_mk _ _ (f (both_left _ _ h)) (g (both_right _ _ h))

pub either-rises : Rises either
either-rises a b a' b' f g h = either_use _ _ (λ t. either_left _ _ (f t)) (λ t. either_right _ _ (g t)) h

pub for_all-rises : (n : ℕ) (p q : ℕ → Bool) → ((i : ℕ) → i < n → T (p i) → T (q i)) → T (for_all n p) → T (for_all n q)
for_all-rises n p q h t = for_all_mk n q (λ i k. h i k (for_all_use n p t i k))

pub for_some-rises : (n : ℕ) (p q : ℕ → Bool) → ((i : ℕ) → i < n → T (p i) → T (q i)) → T (for_some n p) → T (for_some n q)
for_some-rises n p q h t = let (i, k, r) = for_some_use n p t in for_some_mk n q i k (h i k r)

pub among-rises : (d : Bool) (n : ℕ) (p q q' : ℕ → Bool) → ((i : ℕ) → i < n → T (q i) → T (q' i)) → T (among d n p q) → T (among d n p q')
unfolding among
among-rises true n p q q' h = for_some-rises n _ _ (λ i k. both-rises _ _ _ _ (λ t. t) (h i k))
among-rises false n p q q' h = for_all-rises n _ _ (λ i k t. implies_mk _ _ (λ r. h i k (implies_use _ _ t r)))

-- ---- the first that passes

-- it is found within the numbers looked at, or is the end
pub first_le : (p : ℕ → Bool) (i k : ℕ) → first p i k ≤ i + k
unfolding first
first_le p i zero = omega arith
first_le p i (suc k) =
    let h : first p (suc i) k ≤ suc i + k = first_le p (suc i) k in
    elim (p i) as (λ b. cond b i (first p (suc i) k) ≤ i + suc k) [ true ↦ omega arith | false ↦ omega arith ]

-- where some number passes, the one that is found does
pub first_passes : (p : ℕ → Bool) (i k j : ℕ) → i ≤ j → j ≤ i + k → T (p j) → T (p (first p i k))
unfolding first
first_passes p i zero j l h t = let e : j ≡ i = omega arith in rw e at t
first_passes p i (suc k) j l h t =
    elim (p i) as (λ b. (T (p i) → T b) → (T b → T (p i)) → T (p (cond b i (first p (suc i) k)))) [
      | true ↦ λ f g. g tt
      | false ↦ λ f g. elim (ℕ_discrete i j) [ yes e ↦ absurd (f (rw e t)) | no e ↦ first_passes p (suc i) k j (omega arith) (omega arith) t ]
    ]
    (λ u. u) (λ u. u)

-- and none before it does
pub first_least : (p : ℕ → Bool) (i k j : ℕ) → i ≤ j → j < first p i k → T (p j) → ⊥
unfolding first
first_least p i zero j l h t = omega arith
first_least p i (suc k) j l h t =
    elim (p i) as (λ b. (T (p i) → T b) → j < cond b i (first p (suc i) k) → ⊥) [
      | true ↦ λ f h. omega arith
      | false ↦ λ f h. elim (ℕ_discrete i j) [ yes e ↦ f (rw e t) | no e ↦ first_least p (suc i) k j (omega arith) h t ]
    ]
    (λ u. u) h

-- where a search from 0 to n begins
pub first_zero : (p : ℕ → Bool) (n : ℕ) → first p 0 n ≡ first p 0 (n - 0)
first_zero p n = rw sub-zero

-- one turn of a search from i to n, and its end
module _ (p : ℕ → Bool) (i n : ℕ) where
  more : i < n → n - i ≡ suc (n - (i + 1))
  more h = omega arith

  pub first_hit : i < n → p i ≡ true → first p i (n - i) ≡ i
  unfolding first
  first_hit h e = rw (more h, e)

  pub first_miss : i < n → p i ≡ false → first p i (n - i) ≡ first p (i + 1) (n - (i + 1))
  unfolding first
  first_miss h e = rw (more h, e, add-one)

  pub first-end : n ≤ i → first p i (n - i) ≡ i
  unfolding first
  first-end h = let z : n - i ≡ 0 = omega arith in rw z
