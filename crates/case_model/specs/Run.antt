-- Calls of merging and rewriting in a row, as their caller sees them: docs/SPECIFICATION.md, section 6.
-- What the entries promise of a call is stated here once, over the file that the call gets; the plain book is in Book.antt.
use Rattle.std.specs.Prelude.{ℕ, ◌<◌, Bool, true, false, List, [], ◌∷◌, map, ◌↔◌, ◌≡◌, T, length, take}
use Rattle.flc.specs.Sets.{for_all, has, set_of}
use Rattle.flc.specs.Bisimulation.{bisimulation}
use Rattle.case_model.specs.Limits.{standard}
use Rattle.case_model.specs.Bytes.{byte_at}
use Rattle.case_model.specs.Case.{Case, read, table}
use Rattle.case_model.specs.Looking.{looked}
use Rattle.case_model.specs.Rows.{sound, refusals}
use Rattle.case_model.specs.Replies.{Reply, answers, refuses, counted, written}
use Rattle.case_model.specs.Judging.{Verdict, row9, judging}
use Rattle.case_model.specs.Book.{Edit, merges, Book, begun, reply, turn, book}

-- clause 6.1, a call: the edit that it asks for, given its output area's length; that area before and after it; and its reply
pub record Call : Type 0 where
  pub asked : ℕ → Edit
  pub before : List ℕ
  pub after : List ℕ
  pub told : Reply ℕ

abbrev pub edit : Call → Edit
edit c = c.asked (length c.before)

-- what the called entry promises of its reply and of the output area, if it gets the file f: the contracts of merging and rewriting are this
pub record Promised (f : List ℕ) (c : Call) : Type 0 where
  pub says : c.told ≡ counted (reply f (edit c))
  pub leaves : c.after ≡ written (reply f (edit c)) c.before

-- clause 6.2: the file that the next call gets is what this one wrote, if it answered, else the one that this call got
abbrev pub handed : List ℕ → Reply ℕ → List ℕ → List ℕ
handed f (answers count) out = take count out
handed f (refuses k p) out = f

-- clause 6.2: the calls that begin with the file f and leave the file last, each of which keeps its promise
pub data Calls : List ℕ → List Call → List ℕ → Type 0 where
  ended : {f : List ℕ} → Calls f [] f
  called : {f last : List ℕ} {c : Call} {l : List Call} → Promised f c → Calls (handed f c.told c.after) l last → Calls f (c ∷ l) last

-- P holds of each call of the list, with the file that the call gets
unfoldable pub Each : (List ℕ → Call → Type 0) → List ℕ → List Call → Type 0
Each P f [] = Unit
Each P f (c ∷ l) = P f c × Each P (handed f c.told c.after) l

-- clause 4.7, of a call that gets the file f: told refusal 10 if no bisimulation of that case relates the two, and only then
abbrev pub UnlikeTold : List ℕ → Call → Type 0
UnlikeTold f c =
    (s t room : ℕ) → edit c ≡ merges s t room → s < length (read f).labels → t < length (read f).labels → (s ≡ t → ⊥)
    → (c.told ≡ refuses 10 0) ↔ ((R : ℕ → ℕ → Bool) → T (bisimulation (looked (read f)) (table (read f)) R) → T (R s t) → ⊥)

-- clauses 6.5 and 6.6: the replies of the plain book
unfoldable pub replies : Book → List Edit → List (Reply ℕ)
replies b [] = []
replies b (e ∷ l) = counted (reply b.file e) ∷ replies (turn b e) l

-- the set of all states
abbrev pub all_states : Case → ℕ
all_states c = set_of (length c.labels) (λ s. true)

-- state s is in the answer; none is in a refusal
abbrev pub in_answer : Reply Verdict → ℕ → Bool
in_answer (answers v) s = has v.set s
in_answer (refuses k p) s = false

-- clause 3.4: state s holds, judged with so many words
unfoldable pub holds : List ℕ → ℕ → ℕ → Bool
holds f words s = in_answer (judging f (all_states (read f)) words) s

-- p holds of every start state of the case (clause 3.5); without start states, that is so
unfoldable pub every_start : Case → (ℕ → Bool) → Bool
every_start c p = for_all (length c.starts) (λ i. p (byte_at c.starts i))

-- clause 3.5: every start state holds, judged with so many words
unfoldable pub starts_hold : List ℕ → ℕ → Bool
starts_hold f words = every_start (read f) (holds f words)

-- clause 6.7, the verdict of two files, of which the first has standing s in the last for its state s: each state holds in the first exactly if the one that
-- stands for it does in the last, and every start state of the first exactly if every one of the last, with work area enough at both ends
pub record VerdictKept (first last : List ℕ) (standing : ℕ → ℕ) : Type 0 where
  pub states : (words words' : ℕ) → row9 (read first) words ≡ sound → row9 (read last) words' ≡ sound
      → (s : ℕ) → s < length (read first).labels → holds first words s ≡ holds last words' (standing s)
  pub starts : (words words' : ℕ) → row9 (read first) words ≡ sound → row9 (read last) words' ≡ sound → starts_hold first words ≡ starts_hold last words'

-- clause 6.7, demand 3, of the list as a whole: file and replies are the plain book's, unlike is told as it must be, the last file is accepted, each state has
-- one of its case to stand for it, and the verdict stays
pub record Kept (first : List ℕ) (l : List Call) (last : List ℕ) : Type 0 where
  pub file : (book (begun first) (map edit l)).file ≡ last
  pub told : replies (begun first) (map edit l) ≡ map (λ (c : Call). c.told) l
  pub unlike : Each UnlikeTold first l
  pub accepted : refusals standard last ≡ sound
  pub within : (s : ℕ) → s < length (read first).labels → (book (begun first) (map edit l)).standing s < length (read last).labels
  pub verdict : VerdictKept first last (book (begun first) (map edit l)).standing
