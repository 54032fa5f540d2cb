-- Rows 8 and 9 by shifts: a set of n states, and two tables of 2 ^ n words a node, whatever n is.
-- A number is below 2 ^ n exactly if a shift by n leaves nothing, and m times 2 ^ n is at most a number exactly if a shift of it leaves m.
use Prim.Native.Nat.{ℕ, zero, suc, ◌+◌, ◌*◌, ◌/◌, ◌^◌, ◌≤◌, ◌<◌}
use mathlib.Core.Bool.{true}
use mathlib.Core.Path.{◌≡◌, sym, ap, ◌∙◌}
use native.Mathlib.Decide.{dec_le, dec_lt}
use native.Mathlib.Nat.{zero-mul, mul_comm, mul_assoc, mul-le-mul_right, div-eq_of_lt, le-div_iff_mul-le}
use native.Mathlib.Omega.{arith}
use borrow.Author.Tests.{ne_eqb, le-leb, lt-leb, lt-ltb, le-ltb}
use lib.Dec.{eqb, leb, ltb}
use lib.Pow.{pow_pos, pow_mono}

pub set_shifted : (x n : ℕ) → eqb (x / 2 ^ n) 0 ≡ ltb x (2 ^ n)
set_shifted x n = elim (dec_lt x (2 ^ n)) [
  | yes h ↦ rw (lt-ltb x (2 ^ n) h, div-eq_of_lt h)
  | no h ↦
      let some : 1 ≤ x / 2 ^ n = (le-div_iff_mul-le (pow_pos n)).1 (omega arith) in
      rw (le-ltb x (2 ^ n) (omega arith), ne_eqb (x / 2 ^ n) 0 (λ e. omega arith))
]

-- past the 64 bits of a number
pub set_any : (x n : ℕ) → x < 2 ^ 64 → 64 ≤ n → true ≡ ltb x (2 ^ n)
set_any x n h l = sym (lt-ltb x (2 ^ n) (omega (arith, pow_mono {i = 64} {j = n} l)))

doubled : (m n : ℕ) → m * 2 ^ (n + 1) ≡ 2 * m * 2 ^ n
doubled m n =
    let e : n + 1 ≡ suc n = omega arith in
    let d : 2 ^ suc n ≡ 2 * 2 ^ n = omega arith in
    ap (λ k. m * 2 ^ k) e ∙ ap (λ k. m * k) d ∙ sym (mul_assoc m 2 (2 ^ n)) ∙ ap (λ k. k * 2 ^ n) (mul_comm m 2)

pub area_shifted : (m words n : ℕ) → leb m (words / 2 ^ (n + 1)) ≡ leb (2 * m * 2 ^ n) words
area_shifted m words n = elim (dec_le (2 * m * 2 ^ n) words) [
  | yes h ↦ rw (le-leb (2 * m * 2 ^ n) words h, le-leb m (words / 2 ^ (n + 1)) ((le-div_iff_mul-le (pow_pos (n + 1))).1 (omega (arith, doubled m n))))
  | no h ↦
      let less : words / 2 ^ (n + 1) < m = under (λ l. h (omega (arith, doubled m n, (le-div_iff_mul-le (pow_pos (n + 1))).0 l))) in
      rw (lt-leb (2 * m * 2 ^ n) words (omega arith), lt-leb m (words / 2 ^ (n + 1)) less)
]
  where
    under : {a b : ℕ} → (a ≤ b → ⊥) → b < a
    under {a} {b} h = elim (dec_le a b) [ yes l ↦ absurd (h l) | no l ↦ omega arith ]

pub area_none : (m words n : ℕ) → words < 2 ^ 64 → 63 ≤ n → eqb m 0 ≡ leb (2 * m * 2 ^ n) words
area_none zero words n h l = sym (le-leb (2 * 0 * 2 ^ n) words (omega (arith, zero-mul (2 ^ n))))
area_none (suc m) words n h l =
    let many = mul-le-mul_right {m = 2} {n = 2 * suc m} (2 ^ n) (omega arith) in
    ne_eqb (suc m) 0 (λ e. omega arith) ∙ sym (lt-leb (2 * suc m * 2 ^ n) words (omega (arith, many, pow_mono {i = 63} {j = n} l)))
