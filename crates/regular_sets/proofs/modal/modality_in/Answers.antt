-- `regular_sets::modal::modality_in` meets its contract: the operand of one action is in range.
use mathlib.Core.Path.{refl}
use Rattle.case_reader.proofs.Knowing.{operand_under}
use Rattle.regular_sets.proofs.modal.modality_in.Goals as goal

pub by_action-requires : goal.by_action-requires
by_action-requires c = operand_under c.args.a c.in-Action.is c.requires refl
