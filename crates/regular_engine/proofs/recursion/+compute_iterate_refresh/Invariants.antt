-- `regular_engine::recursion::refresh`, `compute` and `iterate` end, by recursion over nodes: 3k falls to 3j + 2 for j below k, and that to
-- 3j + 1 and 3j. The rounds of a binder are what `TurningBy` says.
use Prim.Native.Nat.{◌+◌, ◌*◌}
use Rattle.case_plan.specs.Plans.{decoded}
use Rattle.regular_engine.proofs.Rounds.{TurningBy}
use Rattle.regular_engine.proofs.recursion.+compute_iterate_refresh.Given as goal

abbrev pub decreases-compute : goal.decreases-compute
decreases-compute l = 3 * l.j + 2

abbrev pub decreases-iterate : goal.decreases-iterate
decreases-iterate l = 3 * l.j + 1

abbrev pub decreases-refresh : goal.decreases-refresh
decreases-refresh l = 3 * l.k

abbrev pub invariant-iterate-loop : goal.invariant-iterate-loop
invariant-iterate-loop l =
    TurningBy l.rule.drive.file.now (decoded l.rule.plan.now) l.initial.work l.work l.j l.act l.least l.counter l.since
