-- Which nodes the root reaches: docs/SPECIFICATION.md, clause 1.11.
use Rattle.std.specs.Prelude.{ℕ, ◌<◌, ◌↔◌, T}
use Rattle.flc.specs.Sets.{has}
use Rattle.flc.specs.Nodes.{Node, Names}
use Rattle.case_model.specs.Limits.{most_nodes}
use Rattle.case_model.specs.Case.{Case, node_at}

-- the root is reached, and what a reached node names
pub data Reached (N : ℕ → Node) (root : ℕ) : ℕ → Type 0 where
  the_root : Reached N root root
  named : {i j : ℕ} → Reached N root i → Names (N i) j → Reached N root j

-- x is the set of the nodes that are reached
pub record ReachSet (c : Case) (x : ℕ) : Type 0 where
  pub is : (j : ℕ) → j < most_nodes → T (has x j) ↔ Reached (node_at c) c.root j
