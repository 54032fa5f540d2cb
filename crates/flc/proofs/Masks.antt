-- Sets as numbers: the members of set_of, two sets with the same members, | and & as union and intersection; no state, all states, the other states.
-- By induction on the width: the lowest digit, then the half.
use mathlib.Core.Path.{◌≡◌, refl, sym, ap, ap₂, ◌∙◌, subst}
use mathlib.Core.Bool.{Bool, true, false, not, cond}
use Prim.Native.Nat.{ℕ, zero, suc, ◌+◌, ◌-◌, ◌*◌, ◌/◌, ◌%◌, ◌^◌, ◌≤◌, ◌<◌, suc-le-suc, min, max}
use native.Mathlib.Nat.{le_of_suc-le-suc, not-suc-le-zero, div-one, add_comm, zero-div, div-eq_of_lt, lt_of_lt_of_le}
use native.Mathlib.Numerals.{add-one}
use native.Mathlib.Omega.{arith}
use lib.Dec.{T, eqb, eqb-zero-suc, eqb-suc-zero, eqb-suc-suc}
use lib.Pow.{shr-shr, pow_pos, pow_mono}
use lib.Bits.{bit_or, bit_and, or_shr, and_shr, or_step, and_step, or_lt, and_lt}
use Rattle.flc.specs.Sets.{both, either, has, bit, set_of}

-- ---- the lowest digit, and the others

-- a test is a digit, and a digit a test
eqb-bit : (b : Bool) → eqb (bit b) 1 ≡ b
eqb-bit true = refl
eqb-bit false = refl

bit-eqb : (a : ℕ) → a < 2 → bit (eqb a 1) ≡ a
bit-eqb zero h = refl
bit-eqb (suc zero) h = refl
bit-eqb (suc (suc a)) h = absurd (omega arith)

pub bit_le : (b : Bool) → bit b ≤ 1
bit_le true = omega arith
bit_le false = omega arith

-- state 0 is the lowest digit, the others are the half's
pub has_zero : (x : ℕ) → has x zero ≡ eqb (x % 2) 1
unfolding has
has_zero x = rw div-one

pub has_suc : (x s : ℕ) → has x (suc s) ≡ has (x / 2) s
unfolding has
has_suc x s = rw (shr-shr x 1 s, add_comm 1 s, add-one)

-- the digit of a state is whether the set has it
pub bit-has : (x s : ℕ) → bit (has x s) ≡ x / 2 ^ s % 2
unfolding has
bit-has x s = bit-eqb (x / 2 ^ s % 2) (omega arith)

-- ---- members

-- a state is in the set of a test exactly if it passes
pub has-set_of : (n : ℕ) (p : ℕ → Bool) (s : ℕ) → s < n → has (set_of n p) s ≡ p s
unfolding set_of
has-set_of zero p s k = absurd (not-suc-le-zero k)
has-set_of (suc n) p zero k =
    let e : (bit (p zero) + 2 * set_of n (λ s. p (suc s))) % 2 ≡ bit (p zero) = omega (arith, bit_le (p zero)) in
    has_zero _ ∙ ap (λ a. eqb a 1) e ∙ eqb-bit (p zero)
has-set_of (suc n) p (suc s) k =
    let e : (bit (p zero) + 2 * set_of n (λ s. p (suc s))) / 2 ≡ set_of n (λ s. p (suc s)) = omega (arith, bit_le (p zero)) in
    has_suc _ s ∙ ap (λ x. has x s) e ∙ has-set_of n (λ s. p (suc s)) s (le_of_suc-le-suc k)

-- the set of a test is a set
pub set_of_lt : (n : ℕ) (p : ℕ → Bool) → set_of n p < 2 ^ n
unfolding set_of
set_of_lt zero p = omega arith
set_of_lt (suc n) p = omega (arith, bit_le (p zero), set_of_lt n (λ s. p (suc s)))

-- tests that agree below n have one set
pub set_of_ext : (n : ℕ) (p q : ℕ → Bool) → ((s : ℕ) → s < n → p s ≡ q s) → set_of n p ≡ set_of n q
unfolding set_of
set_of_ext zero p q e = refl
set_of_ext (suc n) p q e =
    ap₂ (λ b r. bit b + 2 * r) (e zero (omega arith)) (set_of_ext n (λ s. p (suc s)) (λ s. q (suc s)) (λ s k. e (suc s) (suc-le-suc k)))

-- a set is the set of its members
pub set_of-has : (n x : ℕ) → x < 2 ^ n → set_of n (has x) ≡ x
unfolding set_of
set_of-has zero x h = omega arith
set_of-has (suc n) x h =
    let r : set_of n (λ s. has x (suc s)) ≡ x / 2 = set_of_ext n _ _ (λ s k. has_suc x s) ∙ set_of-has n (x / 2) (omega arith) in
    let b : bit (has x zero) ≡ x % 2 = ap bit (has_zero x) ∙ bit-eqb (x % 2) (omega arith) in
    omega arith

-- two sets with the same members are equal
pub set_ext : (n x y : ℕ) → x < 2 ^ n → y < 2 ^ n → ((s : ℕ) → s < n → has x s ≡ has y s) → x ≡ y
set_ext n x y i j e = sym (set_of-has n x i) ∙ set_of_ext n (has x) (has y) e ∙ set_of-has n y j

lt_pow : (n : ℕ) → n < 2 ^ n
lt_pow zero = omega arith
lt_pow (suc n) = omega (arith, lt_pow n)

-- of any width
pub set_same : (x y : ℕ) → ((s : ℕ) → has x s ≡ has y s) → x ≡ y
set_same x y e =
    set_ext (x + y) x y
    (omega (arith, lt_pow x, pow_mono {i = x} {j = x + y} (omega arith))) (omega (arith, lt_pow y, pow_mono {i = y} {j = x + y} (omega arith)))
    (λ s i. e s)

-- ---- | and & are union and intersection

-- an operation f on numbers that works digit by digit, as c does on tests
module _ (f : ℕ → ℕ → ℕ) (c : Bool → Bool → Bool)
    (shr : (a b k : ℕ) → f a b / 2 ^ k ≡ f (a / 2 ^ k) (b / 2 ^ k))
    (low : (a b : ℕ) → f a b % 2 ≡ bit (c (eqb (a % 2) 1) (eqb (b % 2) 1))) where
  digit : (x y s : ℕ) → has (f x y) s ≡ c (has x s) (has y s)
  unfolding has
  digit x y s = ap (λ z. eqb (z % 2) 1) (shr x y s) ∙ ap (λ z. eqb z 1) (low (x / 2 ^ s) (y / 2 ^ s)) ∙ eqb-bit _

  digits : (n x y : ℕ) → f x y < 2 ^ n → f x y ≡ set_of n (λ s. c (has x s) (has y s))
  digits n x y h = sym (set_of-has n (f x y) h) ∙ set_of_ext n _ _ (λ s k. digit x y s)

-- by the four cases of two digits
two_digits : (f : ℕ → ℕ → ℕ) (c : Bool → Bool → Bool) → ((p q : Bool) → f (bit p) (bit q) ≡ bit (c p q))
    → (a b : ℕ) → f (a % 2) (b % 2) ≡ bit (c (eqb (a % 2) 1) (eqb (b % 2) 1))
two_digits f c h a b =
    ap₂ f (sym (bit-eqb (a % 2) (omega arith))) (sym (bit-eqb (b % 2) (omega arith))) ∙ h (eqb (a % 2) 1) (eqb (b % 2) 1)

max_either : (p q : Bool) → max (bit p) (bit q) ≡ bit (either p q)
unfolding either
max_either true true = refl
max_either true false = refl
max_either false true = refl
max_either false false = refl

min_both : (p q : Bool) → min (bit p) (bit q) ≡ bit (both p q)
unfolding both
min_both true true = refl
min_both true false = refl
min_both false true = refl
min_both false false = refl

or_low : (a b : ℕ) → bit_or a b % 2 ≡ bit (either (eqb (a % 2) 1) (eqb (b % 2) 1))
or_low a b = omega (arith, or_step a b, two_digits max either max_either a b)

and_low : (a b : ℕ) → bit_and a b % 2 ≡ bit (both (eqb (a % 2) 1) (eqb (b % 2) 1))
and_low a b = omega (arith, and_step a b, two_digits min both min_both a b)

-- at each state
pub has_or : (x y s : ℕ) → has (bit_or x y) s ≡ either (has x s) (has y s)
has_or = digit bit_or either or_shr or_low

pub has_and : (x y s : ℕ) → has (bit_and x y) s ≡ both (has x s) (has y s)
has_and = digit bit_and both and_shr and_low

-- as sets
pub or_set_of : (n x y : ℕ) → x < 2 ^ n → y < 2 ^ n → bit_or x y ≡ set_of n (λ s. either (has x s) (has y s))
or_set_of n x y h k = digits bit_or either or_shr or_low n x y (or_lt n x y h k)

pub and_set_of : (n x y : ℕ) → x < 2 ^ n → y < 2 ^ n → bit_and x y ≡ set_of n (λ s. both (has x s) (has y s))
and_set_of n x y h k = digits bit_and both and_shr and_low n x y (and_lt n x y h k)

-- ---- members
pub has_empty : (t : ℕ) → has 0 t ≡ false
unfolding has
has_empty t = rw (zero-div (2 ^ t))

-- a set of states below n has no other
pub has_beyond : (n x t : ℕ) → x < 2 ^ n → n ≤ t → has x t ≡ false
unfolding has
has_beyond n x t h k = let l : x < 2 ^ t = lt_of_lt_of_le h (pow_mono k) in rw (div-eq_of_lt l)

pub has-single : (k t : ℕ) → has (2 ^ k) t ≡ eqb k t
has-single zero zero = has_zero 1
has-single zero (suc t) = has_suc 1 t ∙ has_empty t ∙ sym (eqb-zero-suc t)
has-single (suc k) zero =
    let e : 2 ^ suc k % 2 ≡ 0 = omega arith in
    has_zero (2 ^ suc k) ∙ ap (λ x. eqb x 1) e ∙ sym (eqb-suc-zero k)
has-single (suc k) (suc t) =
    let e : 2 ^ suc k / 2 ≡ 2 ^ k = omega arith in
    has_suc (2 ^ suc k) t ∙ ap (λ x. has x t) e ∙ has-single k t ∙ sym (eqb-suc-suc k t)

-- ---- no state, all states, the other states
pub set_of-none : (n : ℕ) → set_of n (λ s. false) ≡ 0
unfolding set_of
set_of-none zero = refl
set_of-none (suc n) = omega (arith, set_of-none n)

-- each of n states passes a test or fails it
two_parts : (n : ℕ) (q : ℕ → Bool) → set_of n q + set_of n (λ s. not (q s)) + 1 ≡ 2 ^ n
unfolding set_of
two_parts zero q = omega arith
two_parts (suc n) q = omega (arith, bit_not (q zero), two_parts n (λ s. q (suc s)))
  where
    bit_not : (b : Bool) → bit b + bit (not b) ≡ 1
    bit_not true = refl
    bit_not false = refl

-- those that fail it are the others
pub set_rest : (n : ℕ) (q : ℕ → Bool) → 2 ^ n - 1 - set_of n q ≡ set_of n (λ s. not (q s))
set_rest n q = omega (arith, two_parts n q)

-- at each state
pub has_rest : (n x s : ℕ) → x < 2 ^ n → s < n → has (2 ^ n - 1 - x) s ≡ not (has x s)
has_rest n x s h k =
    ap (λ y. has (2 ^ n - 1 - y) s) (sym (set_of-has n x h)) ∙ ap (λ y. has y s) (set_rest n (has x)) ∙ has-set_of n _ s k

-- all pass the test that none fails
pub set_all : (n : ℕ) → set_of n (λ s. true) ≡ 2 ^ n - 1
set_all n = omega (arith, two_parts n (λ s. true), set_of-none n)

-- each of them is there
pub has_all : (n s : ℕ) → s < n → T (has (2 ^ n - 1) s)
has_all n s k = subst T (sym (ap (λ x. has x s) (sym (set_all n)) ∙ has-set_of n _ s k)) tt

-- ---- a set if the test b passes, else no state
-- a state is in it if the test passes and the set has it
pub given-has : (b : Bool) (x s : ℕ) → both b (has x s) ≡ has (cond b x 0) s
unfolding both
given-has true x s = refl
given-has false x s = sym (has_empty s)

-- it is as small as the set
pub given_small : (b : Bool) (x n : ℕ) → x < 2 ^ n → cond b x 0 < 2 ^ n
given_small true x n h = h
given_small false x n h = pow_pos n
