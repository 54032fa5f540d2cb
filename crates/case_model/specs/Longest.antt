-- How long a case can be: docs/SPECIFICATION.md, clause 1.3.
use Rattle.std.specs.Prelude.{ℕ, ◌+◌, ◌-◌, ◌*◌, ◌≤◌, List, ◌≡◌, length}
use Rattle.case_model.specs.Limits.{sections, most_padding, most_states, standard}
use Rattle.case_model.specs.Case.{Case, write}
use Rattle.case_model.specs.Rows.{sound, refusals}
use Rattle.case_model.specs.Valid.{Valid}

-- clause 1.3: however long a file may be, no case takes more than n bytes; packed, it leaves room for all the padding that there can be; and some case takes n
pub record LongestCase (n : ℕ) : Type 0 where
  pub most : (f : List ℕ) (allowed : ℕ) → refusals (record { longest = allowed; states = most_states }) f ≡ sound → length f ≤ n
  pub packed : (c : Case) → Valid standard c → length (write c) + (sections - 1) * most_padding ≤ n
  pub file : List ℕ
  pub accepted : refusals standard file ≡ sound
  pub long : length file ≡ n
