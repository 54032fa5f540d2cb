-- `engine::blocks::Blocks::refresh`, `compute`, `rounds` and `round` end, by recursion over nodes: 4k falls to 4j + 3 for j below k, and that to 4j + 2, 4j + 1
-- and 4j. The rounds of a binder are at most so many.
use Prim.Native.Nat.{◌+◌, ◌*◌}
use mathlib.Core.Path.{◌≡◌}
use Rattle.case_plan.specs.Plans.{decoded}
use Rattle.engine.proofs.Iterating.{Turning}
use Rattle.engine.proofs.blocks.Blocks.+compute_refresh_round_rounds.Given as goal

abbrev pub decreases-refresh : goal.decreases-refresh
decreases-refresh l = 4 * l.k

abbrev pub decreases-compute : goal.decreases-compute
decreases-compute l = 4 * l.j + 3

abbrev pub decreases-rounds : goal.decreases-rounds
decreases-rounds l = 4 * l.x.node + 2

abbrev pub decreases-round : goal.decreases-round
decreases-round l = 4 * l.x.node + 1

abbrev pub invariant-rounds-loop-r : goal.invariant-rounds-loop-r
invariant-rounds-loop-r l = record {
  turning : let b = l.initial.self in Turning (decoded b.plan.now) b.work.now l.self.work.now l.x l.act l.most l.r l.moved;
  stays : (l.self.plan ≡ l.initial.self.plan) × (l.self.work.ghost_name ≡ l.initial.self.work.ghost_name);
}
