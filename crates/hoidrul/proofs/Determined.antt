-- A reply that fits can be read back from its word, so that two replies of an entry never share one: for each kind of word.
-- Bit 63 tells a refusal from an answer, and the parts of either lie beside each other.
use Prim.Native.Nat.{ℕ, ◌^◌, ◌<◌}
use mathlib.Core.Path.{◌≡◌, ap, ap₂}
use native.Mathlib.Omega.{arith}
use Rattle.case_model.specs.Replies.{answers, refuses}
use Rattle.hoidrul.specs.Packing.{counts_word, span_word, verdict_word, itself, Few, Brief, Short, Determined}

-- for any word that does so with the answers
determined : {A : Type 0} (word : A → ℕ) (P : A → Type 0) → ((a : A) → P a → word a < 2 ^ 63) → ((a b : A) → P a → P b → word a ≡ word b → a ≡ b)
    → Determined word P
determined word P low one (answers a) (answers b) h k e = ap answers (one a b h k e)
determined word P low one (answers a) (refuses j q) h k e = absurd (omega (arith, low a h))
determined word P low one (refuses i p) (answers b) h k e = absurd (omega (arith, low b k))
determined word P low one (refuses i p) (refuses j q) h k e =
    let number : i ≡ j = omega arith in
    let place : p ≡ q = omega arith in
    ap₂ refuses number place

pub counts_determined : Determined counts_word Few
counts_determined =
    determined counts_word Few (λ a h. omega arith)
    (λ a b h k e.
    let n : a.states ≡ b.states = omega arith in
    let m : a.nodes ≡ b.nodes = omega arith in
    λ i. record { states = n i; nodes = m i })

pub verdict_determined : Determined verdict_word Brief
verdict_determined =
    determined verdict_word Brief (λ a h. omega arith)
    (λ a b h k e.
    let x : a.set ≡ b.set = omega arith in
    let r : a.rounds ≡ b.rounds = omega arith in
    λ i. record { set = x i; rounds = r i })

pub count_determined : Determined itself Short
count_determined = determined itself Short (λ n h. h) (λ n m h k e. e)

-- opening's word is a part's place; a refused one, at 0, begins where no section does
pub span_determined : (o p x y : ℕ) → x < 2 ^ 32 → y < 2 ^ 32 → span_word o x ≡ span_word p y → (o ≡ p) × (x ≡ y)
span_determined o p x y h k e = (omega arith, omega arith)
