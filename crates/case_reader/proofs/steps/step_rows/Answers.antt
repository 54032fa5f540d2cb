-- `case_reader::steps::step_rows` meets its contract: the steps from i on are marked, with i falling.
use Prim.Native.Nat.{◌≤◌}
use mathlib.Core.Path.{◌≡◌, sym, ap, ◌∙◌, subst}
use native.Mathlib.Omega.{arith}
use lib.ListN.{length, drop, replicate}
use Rattle.case_model.specs.Case.{read}
use Rattle.case_reader.specs.Read.{triple}
use Rattle.case_reader.specs.StepRows.{turned_if, steps_read, StepRows}
use Rattle.case_reader.proofs.Marking.{marks_none, marks_next}
use Rattle.case_reader.proofs.steps.step_rows.Goals as goal

pub loop-i-init : goal.loop-i-init
loop-i-init c =
    let f = read c.args.file.now in
    let b = c.args.turned in
    subst (λ i. StepRows (steps_read b (drop i f.steps)) (replicate 128 0)) (sym c.step_count-i.ensures.is) (marks_none b f.steps)

pub loop-i-preserved : goal.loop-i-preserved
loop-i-preserved c =
    let b = c.args.turned in
    let few : c.loop-i.i ≤ length (read c.args.file.now).steps = omega (arith, c.loop-i.auto.i, c.step_count-i.ensures.is) in
    marks_next b (read c.args.file.now).steps c.loop-i.i (triple c.turned_if.result) c.loop-i.invariant (omega arith) few
    (c.turned_if.ensures ∙ ap (turned_if b) c.step.ensures.is) c.mark.ensures

pub returns : goal.returns
returns c =
    let e : c.loop-i.i ≡ 0 = omega arith in
    subst (λ i. StepRows (steps_read c.args.turned (drop i (read c.args.file.now).steps)) c.loop-i.rows) e c.loop-i.invariant
