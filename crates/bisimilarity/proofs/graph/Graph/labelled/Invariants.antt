-- `bisimilarity::graph::Graph::labelled` meets its contract. The loop's invariant: the row has the states below t with the label.
use mathlib.Core.Path.{◌≡◌}
use Rattle.flc.specs.Sets.{set_of}
use Rattle.bisimilarity.specs.Graphs.{table_of}
use Rattle.bisimilarity.specs.Relations.{same_label}
use Rattle.bisimilarity.proofs.graph.Graph.labelled.Given as goal

abbrev pub invariant-loop-t : goal.invariant-loop-t
invariant-loop-t l = l.row ≡ set_of l.t (same_label (table_of l.self) l.s)
