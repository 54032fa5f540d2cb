-- `merged_steps::rows::put_steps` meets its contract: after x turns the steps among the triples numbered below x are written.
use Rattle.case_model.specs.Case.{flat}
use Rattle.case_model.specs.Merging.{in_order}
use Rattle.case_reader.specs.StepRows.{relation}
use Rattle.case_writer.specs.Writing.{Writes}
use Rattle.merged_steps.proofs.rows.put_steps.Given as goal

abbrev pub invariant-loop-x : goal.invariant-loop-x
invariant-loop-x l = Writes l.initial.output l.output (flat (in_order l.x (relation l.rows)))
