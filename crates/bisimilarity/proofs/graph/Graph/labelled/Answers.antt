-- `bisimilarity::graph::Graph::labelled` meets its contract. The loop's invariant: the row has the states below t with the label.
use mathlib.Core.Path.{refl}
use native.Mathlib.Omega.{arith}
use Rattle.flc.specs.Sets.{set_of}
use Rattle.bisimilarity.specs.Relations.{same_label}
use Rattle.bisimilarity.proofs.Sets.{set_more, set_small}
use Rattle.bisimilarity.proofs.graph.Graph.labelled.Goals as goal

pub loop-t-init : goal.loop-t-init
unfolding set_of
loop-t-init c = refl

pub extended-row-requires : goal.extended-row-requires
extended-row-requires c = (set_small _ _ c.loop-t.invariant, omega (arith, c.args.self.now.few))

pub loop-t-preserved : goal.loop-t-preserved
unfolding same_label
loop-t-preserved c = set_more _ _ c.loop-t.invariant refl c.extended-row.ensures
