-- `regular_sets::modal::modal_set` meets its contract: the set is taken out first; then the test tells of each state whether it is in the modality.
use mathlib.Core.Path.{ap}
use Rattle.std.proofs.Common.{rules}
use Rattle.flc.specs.Formula.{modal, mean_atom}
use Rattle.case_model.specs.Case.{read, table}
use Rattle.regular_sets.proofs.Made.{stored_as}
use Rattle.regular_sets.proofs.modal.modal_set.Goals as goal

pub returns : goal.returns
returns c =
    let m = c.args.m in
    stored_as (c.store.ensures _ (λ s b h k. search rules)) (ap (mean_atom (table (read c.args.drive.file.now)) (modal m.some m.group)) c.take-x.ensures.is)
