-- `engine::blocks::Blocks::compute_all` meets its contract: with no variable active, the root is computed from the nodes that it reaches.
use Rattle.engine.proofs.Rooting.{root_refreshable, root_computable, ran}
use Rattle.engine.proofs.blocks.Blocks.compute_all.Goals as goal

pub refresh-requires : goal.refresh-requires
refresh-requires c = root_refreshable c.args.self.now.work.now c.requires

pub compute-requires : goal.compute-requires
compute-requires c = rw c.refresh.ensures.plan (root_computable c.args.self.now.work.now c.requires c.refresh.ensures.is)

pub returns-clause-is : goal.returns-clause-is
returns-clause-is c = ran c.args.self.now.work.now c.requires c.refresh.ensures.is (rw c.refresh.ensures.plan at c.compute.ensures.is)
