-- Sets as masks: one state more, the set of one state, sets that meet; a smaller set is a smaller number.
-- By induction on the width, or digit by digit.
use mathlib.Core.Path.{◌≡◌, refl, sym, ap, ap₂, ◌∙◌, subst}
use mathlib.Core.Bool.{Bool, true, false, not, cond, ◌&&◌}
use Prim.Native.Nat.{ℕ, zero, suc, ◌+◌, ◌*◌, ◌^◌, ◌≤◌, ◌<◌, suc-le-suc}
use native.Mathlib.Numerals.{add-one}
use native.Mathlib.Omega.{arith}
use borrow.Author.Tests.{eq-eqb}
use lib.Bits.{bit_and, and_le_l}
use lib.Dec.{T, eqb, eqb→eq, T_not, not_T}
use lib.Pow.{pow_pos}
use Rattle.flc.specs.Sets.{both, for_all, for_some, has, bit, set_of}
use Rattle.flc.proofs.Tests.{bool_ext, for_all_use, for_all_mk, for_some_use, for_some_mk}
use mathlib.Core.List.{List}
use lib.ListN.{length, take, get_or}
use lib.Pointwise.{pointwise, bytes_decides}
use Rattle.std.proofs.lemmas.List.{ext_get_or, get_or-take, length-take-le}
use Rattle.bisimilarity.specs.Relations.{same_rows}
use Rattle.flc.proofs.Weight.{bit-rises}
use Rattle.flc.proofs.Masks.{has_empty, set_of_lt, set_ext, has_and}
use Rattle.case_model.proofs.Tests.{is_true, is_false}

-- ---- one state more
twice : (b : Bool) (n : ℕ) → cond b (2 ^ suc n) 0 ≡ 2 * cond b (2 ^ n) 0
twice true n = let e : 2 ^ suc n ≡ 2 * 2 ^ n = omega arith in e
twice false n = refl

lowest_place : (b : Bool) → bit b + 2 * 0 ≡ 0 + cond b 1 0
lowest_place true = refl
lowest_place false = refl

pub set_of_more : (n : ℕ) (p : ℕ → Bool) → set_of (suc n) p ≡ set_of n p + cond (p n) (2 ^ n) 0
unfolding set_of
set_of_more zero p = lowest_place (p zero)
set_of_more (suc n) p = omega (arith, set_of_more n (λ s. p (suc s)), twice (p (suc n)) n)

-- fewer states, a smaller number
pub set_of_le : (n : ℕ) (p q : ℕ → Bool) → ((s : ℕ) → s < n → T (p s) → T (q s)) → set_of n p ≤ set_of n q
unfolding set_of
set_of_le zero p q h = omega arith
set_of_le (suc n) p q h =
    omega (arith, bit-rises (p zero) (q zero) (h zero (omega arith)), set_of_le n (λ s. p (suc s)) (λ s. q (suc s)) (λ s k. h (suc s) (suc-le-suc k)))

-- one turn of a loop that collects the states that pass
pub set_more : (p : ℕ → Bool) (t : ℕ) {x r : ℕ} {b : Bool} → x ≡ set_of t p → b ≡ p t → r ≡ x + cond b (2 ^ t) 0 → r ≡ set_of (t + 1) p
set_more p t e q h = h ∙ ap₂ (λ y c. y + cond c (2 ^ t) 0) e q ∙ sym (set_of_more t p) ∙ ap (λ k. set_of k p) (sym (add-one t))

pub set_small : (p : ℕ → Bool) (t : ℕ) {x : ℕ} → x ≡ set_of t p → x < 2 ^ t
set_small p t e = subst (λ y. y < 2 ^ t) (sym e) (set_of_lt t p)

-- tests that agree below n
pub all_same : (n : ℕ) (p q : ℕ → Bool) → ((i : ℕ) → i < n → p i ≡ q i) → for_all n p ≡ for_all n q
unfolding for_all
all_same zero p q h = refl
all_same (suc n) p q h = ap₂ both (all_same n p q (λ i l. h i (omega arith))) (h n (omega arith))

-- the first n items of two lists, compared as lists
pub compared : (n : ℕ) (a b : List ℕ) {k : ℕ} → n ≤ k → length a ≡ k → length b ≡ k → same_rows n a b ≡ pointwise eqb (take n a) (take n b)
compared n a b few p q = bool_ext _ _ there back
  where
    h : n ≤ length a
    h = omega arith

    k : n ≤ length b
    k = omega arith

    there : T (same_rows n a b) → T (pointwise eqb (take n a) (take n b))
    there u =
        let same : take n a ≡ take n b = ext_get_or 0 (take n a) (take n b) (length-take-le n a h ∙ sym (length-take-le n b k)) (λ i l.
        let m : i < n = omega (arith, l, length-take-le n a h) in
        get_or-take n a i 0 m ∙ eqb→eq _ _ (for_all_use n _ u i m) ∙ sym (get_or-take n b i 0 m)) in
        subst T (sym ((bytes_decides (take n a) (take n b)).1 same)) tt

    back : T (pointwise eqb (take n a) (take n b)) → T (same_rows n a b)
    back u =
        let same : take n a ≡ take n b = (bytes_decides (take n a) (take n b)).0 (is_true _ u) in
        for_all_mk n _ (λ i l. subst T (sym (eq-eqb _ _ (sym (get_or-take n a i 0 l) ∙ ap (λ r. get_or r i 0) same ∙ get_or-take n b i 0 l))) tt)

-- one turn of a loop that tests every number
pub all_more : (p : ℕ → Bool) (k : ℕ) {a b : Bool} → a ≡ for_all k p → b ≡ p k → (a && b) ≡ for_all (k + 1) p
unfolding for_all both
all_more p k e q = ap₂ (λ a b. a && b) e q ∙ ap (λ j. for_all j p) (sym (add-one k))

-- ---- sets that meet
-- a set is not empty exactly if some state is in it
some_has : (n x : ℕ) → x < 2 ^ n → not (eqb x 0) ≡ for_some n (has x)
some_has n x h = bool_ext _ _ (λ u. go u (for_some n (has x)) refl) back
  where
    back : T (for_some n (has x)) → T (not (eqb x 0))
    back u =
        let (t, k, v) = for_some_use n (has x) u in
        not_T (eqb x 0) (λ e. subst T (has_empty t) (subst (λ y. T (has y t)) (eqb→eq x 0 e) v))

    go : T (not (eqb x 0)) → (b : Bool) → for_some n (has x) ≡ b → T (for_some n (has x))
    go u true e = subst T (sym e) tt
    go u false e =
        let z : x ≡ 0 = set_ext n x 0 h (pow_pos n) (λ t k. is_false (has x t) (λ v. subst T e (for_some_mk n (has x) t k v)) ∙ sym (has_empty t)) in
        absurd (T_not (eqb x 0) u (subst T (sym (eq-eqb x 0 z)) tt))

pub meeting : (n x y : ℕ) → x < 2 ^ n → not (eqb (bit_and x y) 0) ≡ for_some n (λ t. both (has x t) (has y t))
meeting n x y h =
    some_has n (bit_and x y) (omega (arith, and_le_l x y)) ∙ ap (for_some n) (λ i t. has_and x y t i)
