-- A function on the sets of n states as one number: its value at x is digit x to the base 2 ^ n.
-- By induction on the number of digits, the lowest first.
use mathlib.Core.Path.{◌≡◌, refl, sym, ap, ap₂, ◌∙◌, subst}
use Prim.Native.Nat.{ℕ, zero, suc, ◌+◌, ◌*◌, ◌/◌, ◌%◌, ◌^◌, ◌<◌, suc-le-suc}
use native.Mathlib.Nat.{le_of_suc-le-suc, not-suc-le-zero, div-one, pow-zero, pow-suc, add-zero, zero-add, mul_comm, div-div-eq-div-mul}
use native.Mathlib.Omega.{arith}
use lib.Arith.{digits_div, digits_mod}
use lib.Dec.{eqb, eqb→eq, eqb_refl}
use Rattle.flc.specs.Functions.{Fun, agree}
use Rattle.flc.proofs.Tests.{bool_ext}
use Rattle.flc.proofs.Order.{agree_use, agree_mk}
use Rattle.flc.specs.Order.{Agree, Good}

-- digit x of t to the base b
unfoldable pub look : ℕ → ℕ → Fun
look b t x = t / b ^ x % b

-- f i, f (i + 1), .. as k digits to the base b
unfoldable pub pack : ℕ → ℕ → ℕ → Fun → ℕ
pack b i zero f = 0
pack b i (suc k) f = pack b (suc i) k f * b + f i

-- a function on the sets of n states
unfoldable pub packed : ℕ → Fun → ℕ
packed n f = pack (2 ^ n) 0 (2 ^ n) f

-- the lowest digit, and the others
look_zero : (b t : ℕ) → look b t zero ≡ t % b
unfolding look
look_zero b t = rw (pow-zero, div-one)

look_suc : (b t x : ℕ) → look b t (suc x) ≡ look b (t / b) x
unfolding look
look_suc b t x = rw (div-div-eq-div-mul t b (b ^ x), mul_comm b (b ^ x), pow-suc)

-- the digits are the values, and values that agree have the same digits; over the numbers from i on
module _ (b : ℕ) where
  look_pack : (i k : ℕ) (f : Fun) → ((x : ℕ) → x < k → f (i + x) < b) → (x : ℕ) → x < k → look b (pack b i k f) x ≡ f (i + x)
  unfolding pack
  look_pack i zero f h x l = absurd (not-suc-le-zero l)
  look_pack i (suc k) f h zero l =
      look_zero b _ ∙ digits_mod (pack b (suc i) k f) (subst (λ z. f z < b) (add-zero i) (h zero l)) ∙ ap f (sym (add-zero i))
  look_pack i (suc k) f h (suc x) l =
      look_suc b _ x ∙ ap (λ t. look b t x) (digits_div (pack b (suc i) k f) (subst (λ z. f z < b) (add-zero i) (h zero (omega arith))))
      ∙ look_pack (suc i) k f (λ y m. subst (λ z. f z < b) (omega arith) (h (suc y) (suc-le-suc m))) x (le_of_suc-le-suc l) ∙ ap f (omega arith)

  pack_agree : (i k : ℕ) (f g : Fun) → ((x : ℕ) → x < k → f (i + x) ≡ g (i + x)) → pack b i k f ≡ pack b i k g
  unfolding pack
  pack_agree i zero f g h = refl
  pack_agree i (suc k) f g h =
      ap₂ (λ u v. u * b + v) (pack_agree (suc i) k f g (λ x l. subst (λ z. f z ≡ g z) (omega arith) (h (suc x) (suc-le-suc l))))
      (subst (λ z. f z ≡ g z) (add-zero i) (h zero (omega arith)))

-- the same of functions on sets
pub packed-agree : (n : ℕ) (f g : Fun) → Agree n f g → packed n f ≡ packed n g
unfolding packed
packed-agree n f g h = pack_agree (2 ^ n) 0 (2 ^ n) f g (λ x l. rw zero-add (h x l))

-- the value at x is digit x
pub look_packed : {n : ℕ} {f : Fun} → Good n f → Agree n (look (2 ^ n) (packed n f)) f
unfolding packed
look_packed {n} {f} F x l = look_pack (2 ^ n) 0 (2 ^ n) f (λ x l. rw zero-add (F.small x l)) x l ∙ ap f (zero-add x)

-- equal numbers are functions that agree
pub packed-eqb : {n : ℕ} {f g : Fun} → Good n f → Good n g → eqb (packed n f) (packed n g) ≡ agree n f g
packed-eqb {n} {f} {g} F G =
    bool_ext _ _
    (λ t. agree_mk n f g (λ x l. sym (look_packed F x l) ∙ ap (λ t. look (2 ^ n) t x) (eqb→eq _ _ t) ∙ look_packed G x l))
    (λ t. rw (packed-agree n f g (agree_use n f g t)) (eqb_refl (packed n g)))
