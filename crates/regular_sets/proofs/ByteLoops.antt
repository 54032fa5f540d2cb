-- Bytes of sets: one made of bits, the highest first; those of the set of all states; one in a part of the area.
use Prim.Native.Nat.{ℕ, zero, suc, ◌+◌, ◌*◌, ◌-◌, ◌^◌, ◌≤◌, ◌<◌}
use mathlib.Core.Bool.{Bool, true, false}
use mathlib.Core.List.{List, ◌++◌}
use mathlib.Core.Path.{◌≡◌, refl, sym, ap, ◌∙◌}
use native.Mathlib.Decide.{dec_lt}
use native.Mathlib.Omega.{arith}
use lib.ListN.{length, get_or, take}
use lib.Seq.{length-take-le}
use mir.Val.{bool_byte}
use Rattle.std.proofs.lemmas.List.{get_or_append_left}
use lib.Pow.{pow_mono}
use Rattle.flc.specs.Sets.{has, bit, set_of}
use Rattle.flc.proofs.Masks.{bit_le, has-set_of, has_beyond, set_of_lt}
use Rattle.areas.proofs.Parts.{part_under}
use Rattle.regular_model.specs.SetBytes.{byte_of}
use Rattle.regular_model.specs.HeldSets.{held_at}
use Rattle.regular_model.proofs.SetBytes.{byte_ext, bits_more, bits_all, held_byte}

-- the bits of byte i from t on
abbrev pub bits_from : ℕ → ℕ → ℕ → ℕ
bits_from x i t = set_of (8 - t) (λ u. has x (8 * i + (t + u)))

pub bits_none : (x i : ℕ) → 0 ≡ bits_from x i 8
unfolding set_of
bits_none x i = refl

-- a bit as the code has it
pub bit_is : (b : Bool) → bool_byte b ≡ bit b
bit_is true = refl
bit_is false = refl

-- of the bits from t on there is room for one more
pub more_room : (t : ℕ) {y b : ℕ} (d : Bool) → 0 < t → t ≤ 8 → y < 2 ^ (8 - t) → b ≡ bit d → 2 * y + b < 2 ^ (8 - (t - 1))
more_room t d h k l e = let z : 8 - (t - 1) ≡ suc (8 - t) = omega arith in rw z (omega (arith, bit_le d, e))

-- one bit more
pub bits_turn : (x i t y b : ℕ) → 0 < t → t ≤ 8 → y ≡ bits_from x i t → b ≡ bit (has x (8 * i + (t - 1)))
    → 2 * y + b ≡ bits_from x i (t - 1)
bits_turn x i t y b h k e q =
    let z : suc (8 - t) ≡ 8 - (t - 1) = omega arith in
    let v : suc (t - 1) ≡ t = omega arith in
    let m = bits_more (λ v. has x (8 * i + v)) (t - 1) (8 - t) in
    let upper : ℕ = set_of (8 - t) (λ u. has x (8 * i + (suc (t - 1) + u))) in
    let w : upper ≡ bits_from x i t = ap (λ v. set_of (8 - t) (λ u. has x (8 * i + (v + u)))) v in
    let s : 2 * y + b ≡ bit (has x (8 * i + (t - 1))) + 2 * upper = omega (arith, e, q, w) in
    s ∙ sym m ∙ ap (λ k. set_of k (λ u. has x (8 * i + (t - 1 + u)))) z

pub bits_done : (x i t y : ℕ) → t ≡ 0 → y ≡ bits_from x i t → y ≡ byte_of x i
bits_done x i t y z e = e ∙ ap (bits_from x i) z ∙ bits_all x i

-- ---- all states
ones : (k : ℕ) → set_of k (λ s. true) + 1 ≡ 2 ^ k
unfolding set_of
ones zero = refl
ones (suc k) = omega (arith, ones k)

-- k states of byte i
pub full_part : (n i k y : ℕ) → y + 1 ≡ 2 ^ k → k ≤ 8 → ((t : ℕ) → t < k → 8 * i + t < n)
    → ((t : ℕ) → t < 8 → k ≤ t → n ≤ 8 * i + t) → y ≡ byte_of (set_of n (λ s. true)) i
full_part n i k y e h low high =
    let z : y ≡ set_of k (λ s. true) = omega (arith, ones k) in
    byte_ext (set_of n (λ s. true)) i y (omega (arith, pow_mono {i = k} {j = 8} h)) (λ t l. ap (λ y. has y t) z ∙ elim (dec_lt t k) [
      | yes q ↦ has-set_of k _ t q ∙ sym (has-set_of n _ (8 * i + t) (low t q))
      | no q ↦ has_beyond k _ t (set_of_lt k _) (omega arith)
          ∙ sym (has_beyond n _ (8 * i + t) (set_of_lt n _) (high t l (omega arith)))
    ])

-- ---- a byte of the set at a, in the part of w below c
module _ (w : List ℕ) {below : List ℕ} {c : ℕ} (front : below ≡ take c w) (rest : List ℕ) (small : (p : ℕ) → get_or (below ++ rest) p 0 < 256) where
  pub held_below : (a i : ℕ) → a + 32 ≤ c → c ≤ length w → i < 32 → get_or below (a + i) 0 ≡ byte_of (held_at w a) i
  held_below a i h k l =
      let e = part_under w front (a + i) (omega arith) in
      let inside : a + i < length below = omega (arith, ap length front, length-take-le c w k) in
      let q = get_or_append_left below rest 0 (a + i) inside in
      e ∙ held_byte w a i (rw (sym e ∙ sym q) (small (a + i))) l
