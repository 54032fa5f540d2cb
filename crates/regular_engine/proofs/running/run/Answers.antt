-- `regular_engine::running::run` meets its contract: the blocks are cleared, then the nodes up to the root are computed.
use Rattle.case_model.proofs.Valid.{accepted_valid}
use Rattle.regular_model.specs.Judging.{large}
use Rattle.regular_engine.proofs.WholeRule.{steps_inside, run_refreshable, ran}
use Rattle.regular_engine.proofs.running.run.Goals as goal

pub plan_rule-plan-requires : goal.plan_rule-plan-requires
plan_rule-plan-requires c = (accepted_valid large _ c.requires.rows).rule

pub step_index-index-requires : goal.step_index-index-requires
step_index-index-requires c = let ok = c.requires.rows in ((accepted_valid large _ ok).table, steps_inside _ ok)

pub refresh-requires : goal.refresh-requires
refresh-requires c = rw c.new.ensures.0 (run_refreshable c.requires c.plan_rule-plan.ensures c.clear.ensures)

pub returns : goal.returns
returns c = ran c.requires c.plan_rule-plan.ensures c.clear.ensures (rw c.new.ensures.0 at c.refresh.ensures)
