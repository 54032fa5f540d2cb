-- `merged_steps::rows::merged_rows` meets its contract: after x turns the steps among the triples numbered below x are carried over.
use Rattle.case_model.specs.Merging.{moved_steps, in_order}
use Rattle.case_reader.specs.StepRows.{relation, StepRows}
use Rattle.merged_steps.proofs.rows.merged_rows.Given as goal

abbrev pub invariant-loop-x : goal.invariant-loop-x
invariant-loop-x l = StepRows (moved_steps l.pair.kept l.pair.removed (in_order l.x (relation l.rows))) l.merged
