-- `regular_sets::drive::Drive::labelled` meets its contract: bit p of the label, or its complement; no state is past the table.
use mathlib.Core.Path.{sym, ap, ◌∙◌}
use native.Mathlib.Omega.{arith}
use borrow.Author.Tests.{le-ltb}
use Rattle.flc.specs.Sets.{has}
use Rattle.flc.specs.Order.{signed}
use Rattle.case_model.specs.Case.{read, table}
use Rattle.regular_sets.proofs.Flags.{same-signed}
use Rattle.regular_sets.proofs.LabelSets.{label_beyond, label_at}
use Rattle.regular_sets.proofs.drive.Drive.labelled.Goals as goal

pub returns-then-s-self : goal.returns-then-s-self
unfolding table
returns-then-s-self c =
    let D = c.args.self in
    same-signed c.has.result c.args.with ∙ ap (signed c.args.with) (c.has.ensures ∙ ap (λ l. has l c.args.p) c.label.ensures.is)
    ∙ sym (label_at (table (read D.file.now)) c.args.with c.args.p c.args.s (omega (arith, c.if-s-self.true, D.counted)))

pub returns-else-s-self : goal.returns-else-s-self
unfolding table
returns-else-s-self c =
    let D = c.args.self in
    le-ltb _ _ (c.if-s-self.false)
    ∙ sym (label_beyond (table (read D.file.now)) c.args.with c.args.p c.args.s (omega (arith, c.if-s-self.false, D.counted)))
