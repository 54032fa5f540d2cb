-- `case_plan::parts::binders` meets its contract: the loop notes one node a turn.
use Rattle.case_plan.specs.Parts.{BindersOf, nodes_in}
use Rattle.case_plan.proofs.parts.binders.Given as goal

abbrev pub invariant-loop-j : goal.invariant-loop-j
invariant-loop-j l = BindersOf (nodes_in l.nodes) l.j l.binders
