-- The bytes of a case file, its pairs and its sections, over any list of bytes: docs/SPECIFICATION.md, section 1.
use Rattle.std.specs.Prelude.{ℕ, zero, suc, ◌+◌, ◌*◌, ◌-◌, ◌/◌, ◌%◌, Bool, ◌&&◌, List, [], ◌∷◌, ◌++◌, map, length, get_or, eqb, leb}
use Rattle.flc.specs.Sets.{for_all}
use Rattle.case_model.specs.Limits.{Limits, sections, most_padding}

-- h 0, h 1, .. h (k - 1)
unfoldable pub list_of {ℓ} : {A : Type ℓ} → ℕ → (ℕ → A) → List A
list_of zero h = []
list_of (suc k) h = h zero ∷ list_of k (λ i. h (suc i))

-- the byte at a position, 0 past the end
abbrev pub byte_at : List ℕ → ℕ → ℕ
byte_at f at = get_or f at 0

-- clause 1.1: a number of two bytes, the low one first; where section k begins, and how long it is
abbrev pub word_at : List ℕ → ℕ → ℕ
word_at f at = byte_at f at + 256 * byte_at f (at + 1)

abbrev pub offset : List ℕ → ℕ → ℕ
offset f k = word_at f (4 * k)

abbrev pub size : List ℕ → ℕ → ℕ
size f k = word_at f (4 * k + 2)

-- clause 1.2: where section k ends
abbrev pub end : List ℕ → ℕ → ℕ
end f k = offset f k + size f k

-- clause 1.2: what stands from one section's end up to the start of the next is padding: up to three bytes, each 0
unfoldable pub padding : List ℕ → ℕ → ℕ → Bool
padding f from to = leb from to && leb (to - from) most_padding && for_all (to - from) (λ i. eqb (byte_at f (from + i)) 0)

-- clause 1.2: c sections follow section k, only padding between two of them, and the last ends with the file
unfoldable pub chained : List ℕ → ℕ → ℕ → Bool
chained f k zero = eqb (end f k) (length f)
chained f k (suc c) = padding f (end f k) (offset f (suc k)) && chained f (suc k) c

-- clauses 1.1, 1.2 and 1.3: the head is there, the file is not too long, section 0 follows the head, and the others follow it
unfoldable pub pairs_hold : Limits → List ℕ → Bool
pairs_hold most f =
    leb (4 * sections) (length f) && leb (length f) most.longest && eqb (offset f 0) (4 * sections) && chained f 0 (sections - 1)

-- clause 1.13: the bytes of section k
unfoldable pub section : List ℕ → ℕ → List ℕ
section f k = list_of (size f k) (λ i. byte_at f (offset f k + i))

-- ---- clause 1.15, writing: a pair for each section, by its length, the first section at `at`; then the sections
abbrev pub word : ℕ → List ℕ
word x = x % 256 ∷ x / 256 ∷ []

abbrev pub pairs : ℕ → List ℕ → List ℕ
pairs at [] = []
pairs at (n ∷ l) = word at ++ (word n ++ pairs (at + n) l)

abbrev pub joined : List (List ℕ) → List ℕ
joined [] = []
joined (s ∷ l) = s ++ joined l

unfoldable pub packed : List (List ℕ) → List ℕ
packed l = pairs (4 * length l) (map length l) ++ joined l
