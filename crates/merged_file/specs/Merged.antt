-- What must hold before the merged case is written, and the reply once the states are known to be alike.
use Rattle.std.specs.Prelude.{ℕ, suc, ◌+◌, ◌*◌, ◌-◌, ◌≤◌, ◌<◌, List, ◌≡◌, length}
use Rattle.case_model.specs.Limits.{standard}
use Rattle.case_model.specs.Bytes.{size}
use Rattle.case_model.specs.Case.{read, write}
use Rattle.case_model.specs.Rows.{sound, refusals}
use Rattle.case_model.specs.Replies.{Reply, Counts, replied, row13}
use Rattle.case_model.specs.Merging.{moved_steps, in_order, merge}
use Rattle.case_reader.specs.StepRows.{relation, StepRows}
use Rattle.case_writer.specs.declared.sizes.Sizes.{Sizes}
use Rattle.merged_starts.specs.StartSets.{start_set, members}
use Rattle.merged_steps.specs.declared.rows.Pair.{Pair}

-- clause 4.4: the steps of a file in rows, and two of its states, one to keep and one to remove; the number of states removes none
pub record Named (f : List ℕ) (n : Counts) (p : Pair) (rows : List ℕ) : Type 0 where
  pub steps : StepRows (read f).steps rows
  pub kept : p.kept < n.states
  pub removed : p.removed ≤ n.states

-- clauses 4.5 and 4.8: the merged case has the steps of the rows and the start states of the set, and sections of such lengths
pub record Measured (f : List ℕ) (p : Pair) (rows : List ℕ) (set : ℕ) (z : Sizes) : Type 0 where
  pub accepted : refusals standard f ≡ sound
  pub removed : p.removed ≤ length (read f).labels
  pub marks : StepRows (moved_steps p.kept p.removed (read f).steps) rows
  pub set_is : set ≡ start_set (read f) p
  pub labels : z.labels ≡ p.removed + (length (read f).labels - suc p.removed)
  pub steps : z.steps ≡ 3 * length (in_order 2048 (relation rows))
  pub rule : z.rule ≡ size f 2
  pub starts : z.starts ≡ length (members set)

-- clause 4.4: the new file
abbrev pub new_file : List ℕ → Pair → List ℕ
new_file f p = write (merge (read f) p.kept p.removed)

-- clause 7.4: the reply, where the table of refusals has only row 13 left
unfoldable pub fitting : List ℕ → Pair → ℕ → Reply (List ℕ)
fitting f p room = replied (row13 (new_file f p) room) (new_file f p)
