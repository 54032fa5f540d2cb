-- Lists that name each number below n once. Each of their numbers stands at one place, and a sum in their order is the sum over the numbers below n,
-- whatever the order is. That they name nothing else is the pigeonhole: the n numbers take up the whole length.
use Prim.Native.Nat.{ℕ, zero, suc, ◌+◌, ◌*◌, ◌≤◌, ◌<◌}
use mathlib.Core.Bool.{true, false}
use mathlib.Core.List.{List, [], ◌∷◌}
use mathlib.Core.Path.{◌≡◌, refl, sym, ap, ap₂, ◌∙◌, subst}
use native.Mathlib.Decide.{dec_lt, ℕ_discrete}
use native.Mathlib.Nat.{zero-mul, one-mul, add-mul, not-suc-le-zero, le_of_suc-le-suc}
use native.Mathlib.Numerals.{add-one}
use native.Mathlib.Omega.{arith}
use borrow.Author.Tests.{lt-ltb, le-ltb, eq-eqb, ne_eqb}
use lib.Dec.{T, eqb, ltb, eqb→eq}
use lib.ListN.{length, get_or, drop, drop_of_length-le}
use lib.Seq.{drop-cons}
use Rattle.flc.specs.Sets.{bit, for_all}
use Rattle.flc.specs.Sums.{sum_of}
use Rattle.flc.specs.Permutations.{sum_over, times, is_permutation}
use Rattle.flc.proofs.Tests.{bool_ext, for_all_use, for_all_mk}
use Rattle.flc.proofs.Sums.{sum_ext, sum_add, sum_same, sum_eq, sum_at, sum_within}

-- ---- a sum in a list's order, element by element
module _ (f : ℕ → ℕ) (l : List ℕ) (k : ℕ) where
  pub over_more : k < length l → sum_over f (drop k l) ≡ f (get_or l k 0) + sum_over f (drop (k + 1) l)
  unfolding sum_over
  over_more h = rw (add-one, drop-cons l k 0)

  pub over_end : length l ≤ k → sum_over f (drop k l) ≡ 0
  unfolding sum_over
  over_end h = ap (sum_over f) (drop_of_length-le l {i = k} h)

-- ---- where a number stands
-- it is named where it stands
pub times-at : (l : List ℕ) (i : ℕ) → i < length l → 1 ≤ times (get_or l i 0) l
unfolding times sum_over
times-at [] i h = absurd (not-suc-le-zero h)
times-at (x ∷ l) zero h = omega (arith, ap bit (eq-eqb x x refl))
times-at (x ∷ l) (suc i) h = omega (arith, times-at l i (le_of_suc-le-suc h))

-- and stands somewhere if it is named
pub times_place : (l : List ℕ) (j : ℕ) → 1 ≤ times j l → (i : ℕ) × (i < length l) × (get_or l i 0 ≡ j)
unfolding times sum_over
times_place [] j h = absurd (not-suc-le-zero h)
times_place (x ∷ l) j h = elim (ℕ_discrete x j) [
  | yes e ↦ (0, omega arith, e)
  | no e ↦
      let (i, k, q) = times_place l j (omega (arith, ap bit (ne_eqb x j e))) in
      (suc i, omega arith, q)
]

-- at one place if it is named once
pub times_once : (l : List ℕ) (i k : ℕ) → i < length l → k < length l → get_or l i 0 ≡ get_or l k 0 → times (get_or l i 0) l ≤ 1 → i ≡ k
unfolding times sum_over
times_once [] i k a b e h = absurd (not-suc-le-zero a)
times_once (x ∷ l) zero zero a b e h = refl
times_once (x ∷ l) zero (suc k) a b e h =
    let again : 1 ≤ times x l = subst (λ y. 1 ≤ times y l) (sym e) (times-at l k (le_of_suc-le-suc b)) in
    absurd (omega (arith, again, ap bit (eq-eqb x x refl)))
times_once (x ∷ l) (suc i) zero a b e h =
    absurd (omega (arith, times-at l i (le_of_suc-le-suc a), ap bit (eq-eqb x (get_or l i 0) (sym e))))
times_once (x ∷ l) (suc i) (suc k) a b e h =
    ap suc (times_once l i k (le_of_suc-le-suc a) (le_of_suc-le-suc b) e (omega arith))

-- ---- all numbers that are named
-- every number of the list is below n
abbrev Below : ℕ → List ℕ → Type 0
Below n [] = Unit {0}
Below n (j ∷ l) = (j < n) × Below n l

below_at : (n : ℕ) (l : List ℕ) → Below n l → (i : ℕ) → i < length l → get_or l i 0 < n
below_at n [] b i h = absurd (not-suc-le-zero h)
below_at n (j ∷ l) b zero h = b.0
below_at n (j ∷ l) b (suc i) h = below_at n l b.1 i (le_of_suc-le-suc h)

-- a sum in the list's order has each number as often as it is named
weighed : (n : ℕ) (f : ℕ → ℕ) (l : List ℕ) → Below n l → sum_over f l ≡ sum_of n (λ i. times i l * f i)
unfolding sum_over times
weighed n f [] b = sym (sum_ext n _ (λ i. 0) (λ i h. zero-mul (f i)) ∙ sum_same n 0 ∙ zero-mul n)
weighed n f (j ∷ l) b =
    ap₂ (λ x y. x + y) (sym (sum_at n j f b.0)) (weighed n f l b.1)
    ∙ sym (sum_add n _ _) ∙ sum_ext n _ _ (λ i h. sym (add-mul (bit (eqb j i)) (times i l) (f i)))

-- how many of the list's numbers are below n
low : ℕ → List ℕ → ℕ
low n = sum_over (λ j. bit (ltb j n))

low_counts : (n : ℕ) (l : List ℕ) → sum_of n (λ i. times i l) ≡ low n l
unfolding sum_over times low
low_counts n [] = sum_same n 0 ∙ zero-mul n
low_counts n (j ∷ l) = sum_add n _ _ ∙ ap₂ (λ x y. x + y) (sum_within n j) (low_counts n l)

low_le : (n : ℕ) (l : List ℕ) → low n l ≤ length l
unfolding sum_over low
low_le n [] = omega arith
low_le n (j ∷ l) = elim (dec_lt j n) [
  | yes h ↦ omega (arith, ap bit (lt-ltb j n h), low_le n l)
  | no h ↦ omega (arith, ap bit (le-ltb j n (omega arith)), low_le n l)
]

low_all : (n : ℕ) (l : List ℕ) → low n l ≡ length l → Below n l
unfolding sum_over low
low_all n [] e = tt
low_all n (j ∷ l) e = elim (dec_lt j n) [
  | yes h ↦ (h, low_all n l (omega (arith, ap bit (lt-ltb j n h))))
  | no h ↦ absurd (omega (arith, ap bit (le-ltb j n (omega arith)), low_le n l))
]

-- ---- the test
-- as the code makes it
pub other_length : (n : ℕ) (l : List ℕ) → (length l ≡ n → ⊥) → is_permutation n l ≡ false
unfolding is_permutation
other_length n l h = rw (ne_eqb (length l) n h)

module _ (n : ℕ) (l : List ℕ) (e : length l ≡ n) where
  pub each_once : for_all n (λ i. eqb (times i l) 1) ≡ is_permutation n l
  unfolding is_permutation
  each_once = rw (eq-eqb (length l) n e)

  -- n places are no more than n numbers take
  pub each_named : ((i : ℕ) → i < n → 1 ≤ times i l) → is_permutation n l ≡ true
  each_named h =
      let few : sum_of n (λ i. times i l) ≤ sum_of n (λ i. 1) = omega (arith, low_counts n l, low_le n l, sum_same n 1) in
      let once : (i : ℕ) → i < n → times i l ≡ 1 = λ i k. sym (sum_eq n (λ i. 1) (λ i. times i l) h few i k) in
      let all : T (for_all n (λ i. eqb (times i l) 1)) = for_all_mk n _ (λ i k. subst T (sym (eq-eqb (times i l) 1 (once i k))) tt) in
      sym each_once ∙ bool_ext _ true (λ t. tt) (λ t. all)

-- ---- what it tells
module _ (n : ℕ) (l : List ℕ) (names : is_permutation n l ≡ true) where
  pub named-length : length l ≡ n
  unfolding is_permutation
  named-length = elim (ℕ_discrete (length l) n) [
    | yes e ↦ e
    | no e ↦ let no : false ≡ true = sym (other_length n l e) ∙ names in cc
  ]

  pub named_once : (i : ℕ) → i < n → times i l ≡ 1
  named_once i h =
      let all : T (for_all n (λ i. eqb (times i l) 1)) = subst T (sym (each_once n l named-length ∙ names)) tt in
      eqb→eq (times i l) 1 (for_all_use n (λ i. eqb (times i l) 1) all i h)

  named-below : Below n l
  named-below = low_all n l (sym (low_counts n l) ∙ sum_ext n _ (λ i. 1) named_once ∙ sum_same n 1 ∙ one-mul n ∙ sym named-length)

  pub named_small : (i : ℕ) → i < n → get_or l i 0 < n
  named_small i h = below_at n l named-below i (omega (arith, named-length))

  -- the sum is the same in the order of every such list: no list occurs in it
  pub over_each : (f : ℕ → ℕ) → sum_over f l ≡ sum_of n f
  over_each f = weighed n f l named-below ∙ sum_ext n _ _ (λ i h. ap (λ t. t * f i) (named_once i h) ∙ one-mul (f i))
