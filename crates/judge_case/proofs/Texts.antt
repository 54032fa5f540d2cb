-- Numerals, and pages of text that grow.
-- A text after a text is one run; the digits of a number are as few as hold it, so they are its numeral.
use Prim.Native.Nat.{ℕ, zero, suc, ◌+◌, ◌-◌, ◌/◌, ◌^◌, ◌≤◌, ◌<◌}
use mathlib.Core.Bool.{Bool, true, false}
use mathlib.Core.List.{List, ◌++◌}
use mathlib.Core.Path.{◌≡◌, refl, sym, ap, ap₂, ◌∙◌, subst}
use native.Mathlib.Decide.{ℕ_discrete, dec_lt}
use native.Mathlib.Nat.{le_trans, pow-le-pow_right}
use native.Mathlib.Numerals.{add-one}
use native.Mathlib.Omega.{arith}
use borrow.Author.Tests.{lt-ltb, le-ltb}
use lib.Dec.{ltb}
use lib.ListN.{length, take, drop, length-append}
use lib.Seq.{take-append_seam, length-take-le}
use Rattle.io.specs.Digits.{last_digits, IsDigitCount}
use Rattle.flc.specs.Sets.{first, has}
use Rattle.flc.proofs.Tests.{first_le}
use Rattle.judge_case.specs.declared.page.Page.{Page}
use Rattle.case_model.specs.Areas.{Laid}
use Rattle.case_model.proofs.Laying.{laid_after, laid_whole}
use Rattle.judge_case.specs.Printed.{end, yes_or_no, numeral, line, lines, Shows, Grew, Blank}

-- ---- numerals
-- the first number from i on that passes
first_is : (p : ℕ → Bool) (i k r : ℕ) → i ≤ r → r ≤ i + k → ((j : ℕ) → i ≤ j → j < r → p j ≡ false) → (r < i + k → p r ≡ true) → first p i k ≡ r
unfolding first
first_is p i zero r h l f t = omega arith
first_is p i (suc k) r h l f t = elim (ℕ_discrete i r) [
  | yes e ↦ rw (subst (λ z. p z ≡ true) (sym e) (t (omega arith))) e
  | no n ↦ rw (f i (omega arith) (omega arith)) (first_is p (suc i) k r (omega arith) (omega arith) (λ j a b. f j (omega arith) b) (λ a. t (omega arith)))
]

pub fewest : (n r : ℕ) → r ≤ 20 → IsDigitCount 10 1 n r → last_digits 10 r n ≡ numeral n
unfolding numeral
fewest n r h (some, holds, least) =
    ap (λ k. last_digits 10 k n) (sym (first_is (λ k. ltb n (10 ^ k)) 1 19 r some (omega arith)
    (λ j a b. le-ltb n (10 ^ j) (le_trans (pow-le-pow_right (omega arith) {i = j} {j = r - 1} (omega arith)) (least (omega arith))))
    (λ a. lt-ltb n (10 ^ r) holds)))

-- a number of 64 bits has at most 20
pub few_digits : (n r : ℕ) → n < 18446744073709551616 → IsDigitCount 10 1 n r → r ≤ 20
few_digits n r h (some, holds, least) = elim (dec_lt 20 r) [
  | yes l ↦ absurd (omega (arith, least (omega arith), pow-le-pow_right {n = 10} (omega arith) {i = 20} {j = r - 1} (omega arith)))
  | no l ↦ omega arith
]

-- a numeral has at most 20 digits
digits_long : (k n : ℕ) → length (last_digits 10 k n) ≡ k
digits_long zero n = refl
digits_long (suc k) n = length-append (last_digits 10 k (n / 10)) _ ∙ rw (digits_long k (n / 10)) (add-one k)

pub numeral_short : (n : ℕ) → length (numeral n) ≤ 20
unfolding numeral
numeral_short n = rw (digits_long (first (λ k. ltb n (10 ^ k)) 1 19) n) (first_le (λ k. ltb n (10 ^ k)) 1 19)

-- ---- pages
-- from the blank page on
pub shows : {p r : Page} {l : List ℕ} → Blank p → Grew p r l → r.length ≤ 512 → Shows r l
shows {p} {r} {l} z a h =
    let e = a.ends in
    let k : r.length ≡ length l = omega (arith, z.none) in
    let from_0 : Laid p.bytes r.bytes 0 r.length l = subst (λ b. Laid p.bytes r.bytes b r.length l) z.none a in
    let w : r.bytes ≡ l ++ drop (length l) p.bytes = laid_whole from_0 (omega (arith, z.room)) in
    record {
      is = ap₂ take k w ∙ take-append_seam l (drop (length l) p.bytes);
      fits = (omega (arith, a.long, z.room), sym (length-take-le r.length r.bytes (omega (arith, a.long, z.room))));
    }

-- a line has as many bytes as its words, and at most 21 more
pub line_short : (what : List ℕ) (n : ℕ) → length (line what n) ≤ length what + 21
line_short what n = omega (arith, length-append what (numeral n ++ end), length-append (numeral n) end, numeral_short n)

pub answer_short : (b : Bool) → length (yes_or_no b) ≤ 5
answer_short true = omega arith
answer_short false = omega arith

pub state_short : (s : ℕ) (b : Bool) → length (numeral s ++ yes_or_no b) ≤ 25
state_short s b = omega (arith, length-append (numeral s) (yes_or_no b), numeral_short s, answer_short b)

-- one state more
pub one_state : {p q r : Page} (s x : ℕ) {b : Bool} → b ≡ has x s → Grew p q (lines s x)
    → Grew q r (numeral s ++ yes_or_no b) → Grew p r (lines (s + 1) x)
unfolding lines
one_state {p} {q} {r} s x e a h =
    rw (add-one s) (subst (λ b. Grew p r (lines s x ++ (numeral s ++ yes_or_no b))) e (laid_after a h))

pub shows_as : {p : Page} {l m : List ℕ} → l ≡ m → Shows p l → Shows p m
shows_as {p} e a = subst (Shows p) e a
