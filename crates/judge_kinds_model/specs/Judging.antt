-- Judging by a table of kinds: docs/SPECIFICATION.md, section 13, with refusal 15.
use Rattle.std.specs.Prelude.{ℕ, ◌≤◌, ◌<◌, true, List, ◌≡◌, length}
use Rattle.case_model.specs.Bytes.{size, pairs_hold}
use Rattle.case_model.specs.Case.{read, at}
use Rattle.case_model.specs.Kinds.{kinds}
use Rattle.case_model.specs.Limits.{sections, standard}
use Rattle.case_model.specs.Rows.{Found, sound, refused, unless, node_wrong}
use Rattle.case_model.specs.Replies.{Reply, refuses}
use Rattle.case_model.specs.Judging.{Verdict, judging}
use Rattle.judge_kinds_model.specs.KindTables.{is_table, identity, inverse}
use Rattle.judge_kinds_model.specs.Exchange.{exchanged, exchanged_case}

-- clause 8.15: the table is none
abbrev pub row15 : List ℕ → Found
row15 t = unless (is_table t) 15 0

-- clause 7.3: what was found before a reply is made, or else that reply
infixl 20 ◌or_reply◌
abbrev pub ◌or_reply◌ : {A : Type 0} → Found → Reply A → Reply A
sound or_reply r = r
(refused k p) or_reply r = refuses k p

-- clause 13.4: refusal 15 before the file is looked at, or what judging replies of the exchanged file
unfoldable pub judging_kinds : List ℕ → List ℕ → ℕ → ℕ → Reply Verdict
judging_kinds t f x words = row15 t or_reply judging (exchanged t f) x words

-- ---- what is proved of it
-- clause 13.6: the exchanged file is laid out like the file, and has its case with the kinds exchanged
pub record SameLayout (t f : List ℕ) : Type 0 where
  pub pairs : pairs_hold standard (exchanged t f) ≡ true
  pub sizes : (k : ℕ) → k < sections → size (exchanged t f) k ≡ size f k
  pub case : read (exchanged t f) ≡ exchanged_case t (read f)

-- clause 13.7: a node whose kind byte is past the table is at fault
abbrev pub AboveWrong : List ℕ → List ℕ → Type 0
AboveWrong t f = (j : ℕ) → j < length (read f).nodes → length kinds ≤ (at (read f).nodes j).0 → node_wrong (read (exchanged t f)) j ≡ true

-- clause 1.17: two files get the same replies by every table
abbrev pub SameByTable : List ℕ → List ℕ → Type 0
SameByTable f g = (t : List ℕ) (x words : ℕ) → judging_kinds t f x words ≡ judging_kinds t g x words

-- clause 13.8: our own numbers
abbrev pub OwnNumbers : Type 0
OwnNumbers = (f : List ℕ) (x words : ℕ) → judging_kinds identity f x words ≡ judging f x words

-- clause 13.9: the inverse of a table is one; the two undo each other; and a file in our numbers, put into those of the table, is judged by it as ever
pub record Inverse (t : List ℕ) : Type 0 where
  pub table : is_table (inverse t) ≡ true
  pub back : (f : List ℕ) → exchanged (inverse t) (exchanged t f) ≡ f
  pub forth : (f : List ℕ) → exchanged t (exchanged (inverse t) f) ≡ f
  pub judged : (f : List ℕ) (x words : ℕ) → judging_kinds t (exchanged (inverse t) f) x words ≡ judging f x words
