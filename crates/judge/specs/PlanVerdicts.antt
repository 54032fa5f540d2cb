-- The verdict of the case that a plan is of. The private contracts cite it; the public one does not.
use Rattle.std.specs.Prelude.{ℕ}
use Rattle.flc.specs.Formula.{none}
use Rattle.flc.specs.Nodes.{rounds_at}
use Rattle.case_model.specs.Judging.{Verdict}
use Rattle.case_plan.specs.Plans.{Plan, table_of, nodes_of, meaning}

abbrev pub plan_verdict : Plan → ℕ → Verdict
plan_verdict p x = record { set = meaning p p.root none x; rounds = rounds_at (table_of p) (nodes_of p) p.root }
