-- `bisimilarity::graph::Graph::alike_rows` meets its contract. The invariant: the rows relate all bisimilar pairs and no unequal labels; as numbers they fall.
use Rattle.bisimilarity.proofs.Refining.{Round, total}
use Rattle.bisimilarity.proofs.graph.Graph.alike_rows.Given as goal

abbrev pub invariant-loop-next : goal.invariant-loop-next
invariant-loop-next l = Round l.self l.rows

abbrev pub decreases-loop-next : goal.decreases-loop-next
decreases-loop-next l = total l.self.states l.rows
