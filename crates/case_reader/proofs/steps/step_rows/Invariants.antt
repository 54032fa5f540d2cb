-- `case_reader::steps::step_rows` meets its contract: the steps from i on are marked, with i falling.
use lib.ListN.{drop}
use Rattle.case_model.specs.Case.{read}
use Rattle.case_reader.specs.StepRows.{steps_read, StepRows}
use Rattle.case_reader.proofs.steps.step_rows.Given as goal

abbrev pub invariant-loop-i : goal.invariant-loop-i
invariant-loop-i l = StepRows (steps_read l.turned (drop l.i (read l.file).steps)) l.rows
