-- Judging: docs/SPECIFICATION.md, section 3, with refusals 8 and 9.
use Rattle.std.specs.Prelude.{ℕ, ◌*◌, ◌^◌, List, leb, length, replicate}
use Rattle.flc.specs.Formula.{mean, none}
use Rattle.flc.specs.Nodes.{rounds_at}
use Rattle.case_model.specs.Limits.{standard}
use Rattle.case_model.specs.Case.{Case, table, node_at, rule}
use Rattle.case_model.specs.Rows.{Found, ◌or_else◌, unless, row8}
use Rattle.case_model.specs.Replies.{Reply, answers, refuses, replying}

-- clause 3.2: a set and a number of rounds
pub record Verdict : Type 0 where
  pub set : ℕ
  pub rounds : ℕ

unfoldable pub verdict : Case → ℕ → Verdict
verdict c x = record { set = mean (table c) (rule c) none x; rounds = rounds_at (table c) (node_at c) c.root }

-- clause 8.9: fewer words than clause 3.1 asks for
abbrev pub row9 : Case → ℕ → Found
row9 c words = unless (leb (2 * length c.nodes * 2 ^ length c.labels) words) 9 0

-- clauses 3.1, 3.2 and 7.4: refusals 1 to 9, or the verdict at the set x
unfoldable pub judging : List ℕ → ℕ → ℕ → Reply Verdict
judging f x words = replying standard f (λ c. row8 x (2 ^ length c.labels) or_else row9 c words) (λ c. verdict c x)

-- clause 3.3: zeros after an answer; clause 7.5: after a refusal, what was there
abbrev pub cleared : {A : Type 0} → Reply A → List ℕ → List ℕ
cleared (answers a) work = replicate (length work) 0
cleared (refuses k p) work = work
