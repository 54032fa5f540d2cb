-- `merged_steps::rows::is_step` meets its contract: the bit that is read is that of the triple.
use Rattle.merged_steps.proofs.Relations.{told}
use Rattle.merged_steps.proofs.rows.is_step.Goals as goal

pub returns : goal.returns
returns c = told _ _ c.holds.ensures
