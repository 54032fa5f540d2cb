-- The plain book: docs/SPECIFICATION.md, section 6.
use Rattle.std.specs.Prelude.{ℕ, min, max, List, [], ◌∷◌}
use Rattle.case_model.specs.Replies.{Reply, answers, refuses}
use Rattle.case_model.specs.Merging.{moved, merging}
use Rattle.case_model.specs.Rewriting.{rewriting}

-- clause 6.1: a merge of two states, a rewrite by a law at a node; the third number is the length of the output area
pub data Edit : Type 0 where
  merges rewrites : ℕ → ℕ → ℕ → Edit

-- clause 6.4: a file, and which state now stands for each state of the first case
pub record Book : Type 0 where
  pub file : List ℕ
  pub standing : ℕ → ℕ

-- clause 6.4: at the start every state stands for itself
abbrev pub begun : List ℕ → Book
begun f = record { file = f; standing = λ s. s }

-- clause 6.5: what the called entry would reply of this file
abbrev pub reply : List ℕ → Edit → Reply (List ℕ)
reply f (merges s t room) = merging f s t room
reply f (rewrites law j room) = rewriting f law j room

-- clause 6.6: how the numbers of the states change
abbrev pub restood : Edit → ℕ → ℕ
restood (merges s t room) i = moved (min s t) (max s t) i
restood (rewrites law j room) i = i

-- clauses 6.5 and 6.6: the new file and numbers after an answer, the old ones after a refusal
abbrev pub entered : Book → Edit → Reply (List ℕ) → Book
entered b e (answers new) = record { file = new; standing = λ s. restood e (b.standing s) }
entered b e (refuses k p) = b

abbrev pub turn : Book → Edit → Book
turn b e = entered b e (reply b.file e)

unfoldable pub book : Book → List Edit → Book
book b [] = b
book b (e ∷ l) = book (turn b e) l
