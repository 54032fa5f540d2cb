-- Laws of sums over the numbers below n. By induction over n.
use Prim.Native.Nat.{ℕ, zero, suc, ◌+◌, ◌*◌, ◌≤◌, ◌<◌}
use mathlib.Core.Path.{◌≡◌, refl, ap, ap₂, ◌∙◌}
use native.Mathlib.Decide.{ℕ_discrete, dec_lt}
use native.Mathlib.Nat.{not-suc-le-zero, one-mul, zero-mul}
use native.Mathlib.Omega.{arith}
use borrow.Author.Tests.{eq-eqb, ne_eqb, lt-ltb, le-ltb}
use lib.Dec.{eqb, ltb}
use Rattle.flc.specs.Sets.{bit}
use Rattle.flc.specs.Sums.{sum_of}

-- ---- term by term
pub sum_ext : (n : ℕ) (f g : ℕ → ℕ) → ((i : ℕ) → i < n → f i ≡ g i) → sum_of n f ≡ sum_of n g
unfolding sum_of
sum_ext zero f g e = refl
sum_ext (suc n) f g e = ap₂ (λ x y. x + y) (sum_ext n f g (λ i h. e i (omega arith))) (e n (omega arith))

pub sum_add : (n : ℕ) (f g : ℕ → ℕ) → sum_of n (λ i. f i + g i) ≡ sum_of n f + sum_of n g
unfolding sum_of
sum_add zero f g = refl
sum_add (suc n) f g = omega (arith, sum_add n f g)

-- of n terms that are c
pub sum_same : (n c : ℕ) → sum_of n (λ i. c) ≡ c * n
unfolding sum_of
sum_same zero c = omega arith
sum_same (suc n) c = let more : c * suc n ≡ c * n + c = omega arith in omega (arith, sum_same n c, more)

-- of smaller terms
pub sum_le : (n : ℕ) (f g : ℕ → ℕ) → ((i : ℕ) → i < n → f i ≤ g i) → sum_of n f ≤ sum_of n g
unfolding sum_of
sum_le zero f g h = omega arith
sum_le (suc n) f g h = omega (arith, h n (omega arith), sum_le n f g (λ i k. h i (omega arith)))

-- sums of smaller terms that are not smaller have equal terms
pub sum_eq : (n : ℕ) (f g : ℕ → ℕ) → ((i : ℕ) → i < n → f i ≤ g i) → sum_of n g ≤ sum_of n f → (i : ℕ) → i < n → f i ≡ g i
unfolding sum_of
sum_eq zero f g h e i k = absurd (not-suc-le-zero k)
sum_eq (suc n) f g h e i k =
    let below : (i : ℕ) → i < n → f i ≤ g i = λ i k. h i (omega arith) in
    let rest : sum_of n f ≤ sum_of n g = sum_le n f g below in
    let end : f n ≤ g n = h n (omega arith) in
    elim (ℕ_discrete i n) [
      | yes q ↦ rw q (omega arith)
      | no q ↦ sum_eq n f g below (omega arith) i (omega arith)
    ]

-- ---- one number among them
-- terms that are 0 but at j
pub sum_at : (n j : ℕ) (f : ℕ → ℕ) → j < n → sum_of n (λ i. bit (eqb j i) * f i) ≡ f j
unfolding sum_of
sum_at zero j f h = absurd (not-suc-le-zero h)
sum_at (suc n) j f h = elim (ℕ_discrete j n) [
  | yes e ↦
      let none = sum_ext n (λ i. bit (eqb j i) * f i) (λ i. 0) (λ i k. ap (λ b. bit b * f i) (ne_eqb j i (λ q. absurd (omega (arith, q, e)))) ∙ zero-mul (f i))
      ∙ sum_same n 0 in
      let one = ap (λ b. bit b * f n) (eq-eqb j n e) ∙ one-mul (f n) in
      omega (arith, none, one, ap f e)
  | no e ↦
      let rest = ap (λ b. bit b * f n) (ne_eqb j n e) ∙ zero-mul (f n) in
      omega (arith, rest, sum_at n j f (omega (arith, e)))
]

-- is j among them?
pub sum_within : (n j : ℕ) → sum_of n (λ i. bit (eqb j i)) ≡ bit (ltb j n)
unfolding sum_of
sum_within zero j = let none = ap bit (le-ltb j 0 (omega arith)) in omega (arith, none)
sum_within (suc n) j = elim (ℕ_discrete j n) [
  | yes e ↦ omega (
    arith,
    sum_within n j,
    ap bit (eq-eqb j n e),
    ap bit (le-ltb j n (omega arith)),
    ap bit (lt-ltb j (suc n) (omega arith)),
  )
  | no e ↦ elim (dec_lt j n) [
    | yes h ↦ omega (arith, sum_within n j, ap bit (ne_eqb j n e), ap bit (lt-ltb j n h), ap bit (lt-ltb j (suc n) (omega arith)))
    | no h ↦ omega (arith, sum_within n j, ap bit (ne_eqb j n e), ap bit (le-ltb j n (omega arith)), ap bit (le-ltb j (suc n) (omega (arith, e))))
  ]
]
