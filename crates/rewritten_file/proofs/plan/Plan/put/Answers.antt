-- `rewritten_file::plan::Plan::put` meets its contract: the head, two sections that stay, the rule and the section behind it, one after the other.
use native.Mathlib.Omega.{arith}
use Rattle.rewritten_file.proofs.NewFile.{new_short, rule-length, new_written}
use Rattle.rewritten_file.proofs.plan.Plan.put.Goals as goal

pub pairs-requires-clause-short : goal.pairs-requires-clause-short
pairs-requires-clause-short c =
    let pre = c.requires in
    rw c.each.ensures (omega (arith, pre.1, new_short pre.0))

pub put_rule-requires : goal.put_rule-requires
put_rule-requires c =
    let pre = c.requires in
    let head = rw c.each.ensures at c.pairs.ensures in
    (pre.0, omega (arith, rule-length pre.0, pre.1, head.laid, c.put_section.ensures.laid, c.put_section-2.ensures.laid))

pub returns : goal.returns
returns c =
    new_written c.requires.0 c.requires.1 (rw c.each.ensures at c.pairs.ensures) c.put_section.ensures c.put_section-2.ensures
    c.put_rule.ensures c.put_section-3.ensures
