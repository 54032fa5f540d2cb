-- `case_writer::output::Output::part` meets its contract: the bytes are laid where the output stands.
use mathlib.Core.Path.{refl}
use Rattle.case_writer.proofs.output.Output.part.Goals as goal

pub returns : goal.returns
returns c = record { same_area = refl; laid = c.lay.ensures }
