-- `merged_steps::rows::merged_rows` meets its contract: a triple is carried over if it is a step and stays.
use mathlib.Core.Path.{◌≡◌, sym, ◌∙◌}
use native.Mathlib.Omega.{arith}
use Rattle.merged_steps.proofs.Relations.{carried_none, no_step, step_dropped, step_carried, numbered_is}
use Rattle.merged_steps.proofs.rows.merged_rows.Goals.{then-is_step+then-t-pair, else-is_step, else-is_step-via-then-is_step+else-t-pair, else-is_step-via-else-is_step}
use Rattle.merged_steps.proofs.rows.merged_rows.Goals as goal

pub loop-x-init : goal.loop-x-init
loop-x-init c = carried_none _ _ _

pub loop-x-preserved : goal.loop-x-preserved
loop-x-preserved c = elim c.if-is_step.branch [
  | then-is_step+then-t-pair w ↦
      rw (w.merged-is, w.mark.ensures, w.moved.ensures, w.moved-then-t-pair.ensures)
      (step_carried _ _ _ _ c.loop-x.invariant (sym c.is_step.ensures ∙ w.if-is_step.true) c.numbered-t.result (numbered_is _ c.numbered-t.ensures) w.if-t-pair.true)
  | else-is_step w ↦
      rw w.merged-is elim w.else-is_step.branch [
        | else-is_step-via-then-is_step+else-t-pair v ↦
            step_dropped _ _ _ _ c.loop-x.invariant (sym c.is_step.ensures ∙ v.if-is_step.true) c.numbered-t.result (numbered_is _ c.numbered-t.ensures) v.if-t-pair.false
        | else-is_step-via-else-is_step v ↦ no_step _ _ _ _ c.loop-x.invariant (sym c.is_step.ensures ∙ v.if-is_step.false)
      ]
]

pub returns : goal.returns
returns c =
    let e : c.loop-x.x ≡ 2048 = omega arith in
    rw e at c.loop-x.invariant
