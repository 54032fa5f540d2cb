-- Padding aside: which files differ in their padding alone, and when two files get the same replies: docs/SPECIFICATION.md, clauses 1.2 and 1.17.
use Rattle.std.specs.Prelude.{ℕ, ◌+◌, ◌<◌, true, List, ◌≡◌}
use Rattle.case_model.specs.Limits.{Limits, sections, standard}
use Rattle.case_model.specs.Bytes.{list_of, offset, end, pairs_hold, section, packed}
use Rattle.case_model.specs.Case.{Case, write}
use Rattle.case_model.specs.Rows.{Found}
use Rattle.case_model.specs.Replies.{replying, opening}

-- clause 1.17: two files that row 1 does not refuse within these limits, with the same bytes in each section, wherever it lies
pub record PaddingAside (most : Limits) (f g : List ℕ) : Type 0 where
  pub one : pairs_hold most f ≡ true
  pub other : pairs_hold most g ≡ true
  pub same : (k : ℕ) → k < sections → section f k ≡ section g k

-- clause 1.17: the sections of a file, packed
unfoldable pub repacked : List ℕ → List ℕ
repacked f = packed (list_of sections (section f))

-- clause 1.17: whatever an entry's own rows and its answer are, its replies of both are the same, for equal numbers, work areas and rooms
pub record SameReplies (most : Limits) (f g : List ℕ) : Type 1 where
  pub replies : {A : Type 0} (own : Case → Found) (answer : Case → A) → replying most f own answer ≡ replying most g own answer

-- and opening hands back the same bytes
abbrev pub SameParts : List ℕ → List ℕ → Type 0
SameParts f g = (k : ℕ) → opening f k ≡ opening g k

-- clause 1.2: a file of the case c with a, b and d bytes of padding before its sections 1, 2 and 3
pub record Padded (c : Case) (a b d : ℕ) : Type 0 where
  pub file : List ℕ
  pub aside : PaddingAside standard file (write c)
  pub first : offset file 1 ≡ end file 0 + a
  pub second : offset file 2 ≡ end file 1 + b
  pub third : offset file 3 ≡ end file 2 + d
