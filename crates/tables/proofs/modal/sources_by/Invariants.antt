-- `tables::modal::sources_by` meets its contract. The loop's invariant: the states by the actions below a.
use mathlib.Core.Path.{◌≡◌}
use Rattle.case_plan.specs.Plans.{decoded}
use Rattle.tables.proofs.Gathering.{sources_below}
use Rattle.tables.proofs.modal.sources_by.Given as goal

abbrev pub invariant-loop-a : goal.invariant-loop-a
invariant-loop-a l = l.states ≡ sources_below (decoded l.plan) l.group l.t l.a
