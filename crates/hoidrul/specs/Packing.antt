-- Replies as one number, for callers in other languages; include/hoidrul.h says the same in C.
use Rattle.std.specs.Prelude.{ℕ, ◌+◌, ◌*◌, ◌^◌, ◌<◌, ◌≡◌}
use Rattle.case_model.specs.Judging.{Verdict}
use Rattle.case_model.specs.Replies.{Reply, answers, refuses, Counts}

-- bit 63, the number from bit 32 on, and the place
abbrev pub refusal_word : ℕ → ℕ → ℕ
refusal_word k p = 2 ^ 63 + k * 2 ^ 32 + p

abbrev pub packed : {A : Type 0} → (A → ℕ) → Reply A → ℕ
packed word (answers a) = word a
packed word (refuses k p) = refusal_word k p

-- n + m * 2^16
abbrev pub counts_word : Counts → ℕ
counts_word c = c.states + c.nodes * 2 ^ 16

-- a part's offset and length
abbrev pub span_word : ℕ → ℕ → ℕ
span_word offset size = offset * 2 ^ 32 + size

-- the set, and the rounds from bit 16 on
abbrev pub verdict_word : Verdict → ℕ
verdict_word v = v.set + v.rounds * 2 ^ 16

-- a count of bytes
abbrev pub itself : ℕ → ℕ
itself n = n

-- ---- a reply fits: its parts do not overlap in its word, and only a refusal has bit 63
abbrev pub Fits : {A : Type 0} → (A → Type 0) → Reply A → Type 0
Fits P (answers a) = P a
Fits P (refuses k p) = p < 2 ^ 32

abbrev pub Few : Counts → Type 0
Few c = (c.states < 2 ^ 16) × (c.nodes < 2 ^ 47)

abbrev pub Brief : Verdict → Type 0
Brief v = (v.set < 2 ^ 16) × (v.rounds < 2 ^ 47)

abbrev pub Short : ℕ → Type 0
Short n = n < 2 ^ 63

-- replies that fit and have one word are one reply
abbrev pub Determined : {A : Type 0} → (A → ℕ) → (A → Type 0) → Type 0
Determined {A} word P = (r s : Reply A) → Fits P r → Fits P s → packed word r ≡ packed word s → r ≡ s
