-- What the entries reply: docs/SPECIFICATION.md, section 7, with vetting and opening of section 1.
use Rattle.std.specs.Prelude.{ℕ, ◌+◌, List, [], ◌++◌, ◌≡◌, leb, length, drop}
use Rattle.std.specs.Borrow.{Bor}
use Rattle.case_model.specs.Bytes.{offset, section}
use Rattle.case_model.specs.Limits.{Limits, sections, standard}
use Rattle.case_model.specs.Case.{Case, read}
use Rattle.case_model.specs.Rows.{Found, sound, refused, ◌or_else◌, unless, row8, refusals}

-- clause 7.1: an answer, or a number and a place
pub data Reply (A : Type 0) : Type 0 where
  answers : A → Reply A
  refuses : ℕ → ℕ → Reply A

abbrev pub replied : {A : Type 0} → Found → A → Reply A
replied sound a = answers a
replied (refused k p) a = refuses k p

-- clause 1.12: n and m
pub record Counts : Type 0 where
  pub states : ℕ
  pub nodes : ℕ

abbrev pub counts : Case → Counts
counts c = record { states = length c.labels; nodes = length c.nodes }

-- clauses 7.3 and 7.4, every entry that takes a file: refusals 1 to 7 within its limits, then the rows of its own, or its answer; both are made of the case
unfoldable pub replying : {A : Type 0} → Limits → List ℕ → (Case → Found) → (Case → A) → Reply A
replying most f own answer = replied (refusals most f or_else own (read f)) (answer (read f))

-- clause 6.1: what a file is answered with that is accepted within these limits: no row of its own, and the counts
unfoldable pub accepting : Limits → List ℕ → Reply Counts
accepting most f = replying most f (λ c. sound) counts

-- an accepted file, and what it was answered with
pub record Accepted (most : Limits) (f : List ℕ) (n : Counts) : Type 0 where
  pub rows : refusals most f ≡ sound
  pub states : n.states ≡ length (read f).labels
  pub nodes : n.nodes ≡ length (read f).nodes

-- clauses 1.12 and 7.4: the section number is looked at last
unfoldable pub vetting : List ℕ → ℕ → Reply Counts
vetting f k = replying standard f (λ c. row8 k sections) counts

-- clauses 1.13 and 1.14: the part where vetting answers, the empty one where it refuses
abbrev pub opened : {A B : Type 0} → Reply A → B → B → B
opened (answers a) part empty = part
opened (refuses k p) part empty = empty

unfoldable pub opening : List ℕ → ℕ → List ℕ
opening f k = opened (vetting f k) (section f k) []

-- where the part begins in the file
unfoldable pub opened_at : List ℕ → ℕ → ℕ
opened_at f k = opened (vetting f k) (offset f k) 0

-- clause 1.13: the part r of the lent file has these bytes, and lies there in the same memory
pub record Opened (file r : Bor (List ℕ)) (k : ℕ) : Type 0 where
  pub bytes : r.now ≡ opening file.now k
  pub block : r.ref_ptr.0 ≡ file.ref_ptr.0
  pub place : r.ref_ptr.1 ≡ file.ref_ptr.1 + opened_at file.now k

-- ---- entries that write to an output area
-- clause 8.13: the result does not fit
abbrev pub row13 : List ℕ → ℕ → Found
row13 new room = unless (leb (length new) room) 13 0

-- clause 7.6: what is told of a new file is how many bytes it has
abbrev pub counted : Reply (List ℕ) → Reply ℕ
counted (answers new) = answers (length new)
counted (refuses k p) = refuses k p

-- clauses 7.5 and 7.6: the output area after the call, new bytes in front and the rest as it was
abbrev pub written : Reply (List ℕ) → List ℕ → List ℕ
written (answers new) out = new ++ drop (length new) out
written (refuses k p) out = out
