-- `bisimilarity::graph::Graph::left` meets its contract. The loop's invariant: the row has the states below t that stay.
use mathlib.Core.Path.{◌≡◌}
use Rattle.flc.specs.Sets.{set_of}
use Rattle.bisimilarity.specs.Graphs.{table_of}
use Rattle.bisimilarity.specs.Relations.{related, kept}
use Rattle.bisimilarity.proofs.graph.Graph.left.Given as goal

abbrev pub invariant-loop-t : goal.invariant-loop-t
invariant-loop-t l = l.row ≡ set_of l.t (kept (table_of l.self) (related l.rows) l.s)
