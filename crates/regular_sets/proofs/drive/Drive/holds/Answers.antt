-- `regular_sets::drive::Drive::holds` meets its contract: whether a step decides is the answer, up to the flag; no state is past the table.
use mathlib.Core.Path.{sym, ◌∙◌}
use native.Mathlib.Omega.{arith}
use Rattle.case_model.specs.Case.{read, table}
use Rattle.regular_model.specs.HeldSets.{held_at}
use Rattle.regular_sets.specs.Views.{decided}
use Rattle.regular_sets.proofs.Flags.{signed_true, signed_false}
use Rattle.regular_sets.proofs.Hitting.{some_yes, some_on, some_end}
use Rattle.regular_sets.proofs.Modalities.{modal_beyond, modal_found}
use Rattle.regular_sets.proofs.drive.Drive.holds.Goals as goal

pub loop-a-preserved : goal.loop-a-preserved
loop-a-preserved c = c.loop-a.invariant ∙ some_on (decided _ _ _ _ _) c.loop-a.a _ (sym c.decides.ensures ∙ c.if-decides.false)

pub returns-then-self-s : goal.returns-then-self-s
unfolding table
returns-then-self-s c =
    let D = c.args.self in
    let m = c.args.m in
    sym (modal_beyond (table (read D.file.now)) m.some m.group (held_at c.args.x.now 0) c.args.s (omega (arith, c.if-self-s.true, D.counted)))

pub returns-then-decides : goal.returns-then-decides
returns-then-decides c =
    let yes = some_yes (decided _ _ _ _ _) c.loop-a.a _ c.loop-a-test.true (sym c.decides.ensures ∙ c.if-decides.true) in
    sym (signed_true c.args.m.some) ∙ modal_found c.args.self c.args.m _ _ c.if-self-s.false (c.loop-a.invariant ∙ yes)

pub returns : goal.returns
returns c =
    let none = some_end (decided _ _ _ _ _) c.loop-a.a c.args.m.last (omega (arith, c.loop-a-test.false)) in
    sym (signed_false c.args.m.some) ∙ modal_found c.args.self c.args.m _ _ c.if-self-s.false (c.loop-a.invariant ∙ none)
