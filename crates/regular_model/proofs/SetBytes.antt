-- A set of 256 states as 32 bytes: bytes are told by their bits, a set by its bytes, and | and & may go byte by byte.
use mathlib.Core.Path.{◌≡◌, sym, ap, ap₂, ◌∙◌}
use mathlib.Core.Bool.{Bool}
use mathlib.Core.List.{List}
use Prim.Native.Nat.{ℕ, zero, suc, ◌+◌, ◌*◌, ◌/◌, ◌%◌, ◌^◌, ◌<◌}
use native.Mathlib.Decide.{dec_lt}
use native.Mathlib.Omega.{arith}
use lib.Bits.{bit_or, bit_and, or_lt, and_lt}
use lib.ListN.{get_or}
use Rattle.flc.specs.Sets.{both, either, has, bit, set_of}
use Rattle.flc.proofs.Masks.{has-set_of, set_of_lt, set_of_ext, set_of-has, set_ext, has_or, has_and}
use Rattle.regular_model.specs.SetBytes.{byte_of}
use Rattle.regular_model.specs.HeldSets.{held_at, blocks, Stored}
use Rattle.regular_model.specs.Blocks.{Placed}
use Rattle.regular_model.proofs.Examples as examples

-- ---- one byte
byte_of_lt : (x i : ℕ) → byte_of x i < 2 ^ 8
unfolding byte_of
byte_of_lt x i = set_of_lt 8 _

pub has-byte_of : (x i t : ℕ) → t < 8 → has (byte_of x i) t ≡ has x (8 * i + t)
unfolding byte_of
has-byte_of x i t h = has-set_of 8 _ t h

-- told by its bits
pub byte_ext : (x i y : ℕ) → y < 2 ^ 8 → ((t : ℕ) → t < 8 → has y t ≡ has x (8 * i + t)) → y ≡ byte_of x i
byte_ext x i y h e = set_ext 8 y (byte_of x i) h (byte_of_lt x i) (λ t l. e t l ∙ sym (has-byte_of x i t l))

-- ---- a set is told by its bytes
pub held_set : (x : ℕ) (w : List ℕ) (base : ℕ) → x < 2 ^ 256 → ((i : ℕ) → i < 32 → get_or w (base + i) 0 ≡ byte_of x i) → held_at w base ≡ x
unfolding held_at
held_set x w base h e =
    set_of_ext 256 _ (has x) (λ s k.
    let q : 8 * (s / 8) + s % 8 ≡ s = omega arith in
    ap (λ y. has y (s % 8)) (e (s / 8) (omega arith)) ∙ has-byte_of x (s / 8) (s % 8) (omega arith) ∙ ap (has x) q)
    ∙ set_of-has 256 x h

-- a bit of it
pub held_has : (w : List ℕ) (base t : ℕ) → t < 256 → has (held_at w base) t ≡ has (get_or w (base + t / 8) 0) (t % 8)
unfolding held_at
held_has w base t h = has-set_of 256 _ t h

-- and its bytes
pub held_byte : (w : List ℕ) (base i : ℕ) → get_or w (base + i) 0 < 256 → i < 32 → get_or w (base + i) 0 ≡ byte_of (held_at w base) i
held_byte w base i small h = byte_ext (held_at w base) i _ small (λ t l.
    let p : i ≡ (8 * i + t) / 8 = omega arith in
    let q : t ≡ (8 * i + t) % 8 = omega arith in
    ap₂ (λ i t. has (get_or w (base + i) 0) t) p q ∙ sym (held_has w base (8 * i + t) (omega arith)))

pub held_lt : (w : List ℕ) (base : ℕ) → held_at w base < 2 ^ 256
unfolding held_at
held_lt w base = set_of_lt 256 _

-- ---- | and &, byte by byte
pub byte_or : (x y i : ℕ) → bit_or (byte_of x i) (byte_of y i) ≡ byte_of (bit_or x y) i
byte_or x y i = byte_ext (bit_or x y) i _ (or_lt 8 _ _ (byte_of_lt x i) (byte_of_lt y i)) (λ t l.
    has_or _ _ t ∙ ap₂ either (has-byte_of x i t l) (has-byte_of y i t l) ∙ sym (has_or x y (8 * i + t)))

pub byte_and : (x y i : ℕ) → bit_and (byte_of x i) (byte_of y i) ≡ byte_of (bit_and x y) i
byte_and x y i = byte_ext (bit_and x y) i _ (and_lt 8 _ _ (byte_of_lt x i) (byte_of_lt y i)) (λ t l.
    has_and _ _ t ∙ ap₂ both (has-byte_of x i t l) (has-byte_of y i t l) ∙ sym (has_and x y (8 * i + t)))

-- ---- blocks in the work area
-- a block depends on its bytes only
pub held_same : (w v : List ℕ) (base base' : ℕ) → ((i : ℕ) → i < 32 → get_or v (base + i) 0 ≡ get_or w (base' + i) 0) → held_at v base ≡ held_at w base'
unfolding held_at
held_same w v base base' e = set_of_ext 256 _ _ (λ s k. ap (λ y. has y (s % 8)) (e (s / 8) (omega arith)))

later : (i j : ℕ) → (i ≡ j → ⊥) → (i < j → ⊥) → j < i
later i j h q = elim (dec_lt j i) [ yes z ↦ z | no z ↦ absurd (h (omega arith)) ]

-- a set stored in block j is placed there
pub stored_placed : {w v : List ℕ} (j x : ℕ) → x < 2 ^ 256 → Stored w v (64 * j) x → Placed (blocks w) (blocks v) j x
stored_placed {w} {v} j x small S = record {
  inside = held_set x v (64 * j) small S.inside;
  outside = λ i h. held_same w v (64 * i) (64 * i) (λ k l. elim (dec_lt i j) [
    | yes q ↦ S.under (64 * i + k) (omega arith)
    | no q ↦ S.over (64 * i + k) (omega (arith, later i j h q))
  ]);
}

-- ---- a byte from a test of each state, the highest first
-- of the bits from t on: one more below
pub bits_more : (p : ℕ → Bool) (t k : ℕ) → set_of (suc k) (λ u. p (t + u)) ≡ bit (p t) + 2 * set_of k (λ u. p (suc t + u))
unfolding set_of
bits_more p t k =
    let e : t + zero ≡ t = omega arith in
    ap₂ (λ b r. bit b + 2 * r) (ap p e) (set_of_ext k _ _ (λ u l. let q : t + suc u ≡ suc t + u = omega arith in ap p q))

-- all eight are the byte
pub bits_all : (x i : ℕ) → set_of 8 (λ u. has x (8 * i + (0 + u))) ≡ byte_of x i
unfolding byte_of
bits_all x i = set_of_ext 8 _ _ (λ u l. let q : 0 + u ≡ u = omega arith in ap (λ u. has x (8 * i + u)) q)
