-- `merged_steps::rows::put_steps` meets its contract: a triple for a step, else nothing.
use mathlib.Core.Path.{◌≡◌, sym, ◌∙◌}
use native.Mathlib.Omega.{arith}
use Rattle.case_model.specs.Merging.{selected, in_order}
use Rattle.case_writer.proofs.Runs.{writes_none}
use Rattle.merged_steps.proofs.Relations.{step_written, none_written, turn_room, numbered_is}
use Rattle.merged_steps.proofs.rows.put_steps.Goals.{then-is_step, else-is_step}
use Rattle.merged_steps.proofs.rows.put_steps.Goals as goal

pub loop-x-init : goal.loop-x-init
unfolding in_order selected
loop-x-init c = writes_none _

pub triple-requires-clause-room : goal.triple-requires-clause-room
triple-requires-clause-room c =
    turn_room _ _ c.loop-x.invariant c.loop-x-test.true c.requires (sym c.is_step.ensures ∙ c.if-is_step.true)

pub loop-x-preserved : goal.loop-x-preserved
loop-x-preserved c = elim c.if-is_step.branch [
  | then-is_step w ↦
      rw w.output-is (step_written _ _ c.loop-x.invariant w.numbered.result (sym c.is_step.ensures ∙ w.if-is_step.true) (numbered_is _ w.numbered.ensures) w.triple.ensures)
  | else-is_step w ↦ rw w.output-is (none_written _ _ c.loop-x.invariant (sym c.is_step.ensures ∙ w.if-is_step.false))
]

pub returns : goal.returns
returns c =
    let e : c.loop-x.x ≡ 2048 = omega arith in
    rw e at c.loop-x.invariant
