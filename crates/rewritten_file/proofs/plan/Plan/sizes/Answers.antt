-- `rewritten_file::plan::Plan::sizes` meets its contract: three sections that stay, the nodes and the root, and with the head the whole.
use mathlib.Core.Path.{sym, ◌∙◌}
use native.Mathlib.Omega.{arith}
use Rattle.case_model.proofs.Sections.{section-length}
use Rattle.rewritten_file.proofs.NewFile.{rule-length, new_length}
use Rattle.rewritten_file.proofs.plan.Plan.sizes.Goals as goal

pub returns : goal.returns
returns c =
    let f = c.args.file.now in
    let labels = c.section_size.ensures.is ∙ sym (section-length f 0) in
    let steps = c.section_size-2.ensures.is ∙ sym (section-length f 1) in
    let rule = sym (rule-length c.requires) in
    let starts = c.section_size-3.ensures.is ∙ sym (section-length f 3) in
    record { labels = labels; steps = steps; rule = rule; starts = starts; all = omega (arith, new_length c.requires) }
