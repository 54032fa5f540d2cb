-- What the readers of a file answer: a number or a triple of the case as data, with its range; and the nodes' free variables (clause 1.10).
use Rattle.std.specs.Prelude.{ℕ, ◌<◌, List, ◌≡◌}
use Rattle.flc.specs.Sets.{set_of}
use Rattle.flc.specs.Formula.{free}
use Rattle.flc.specs.Nodes.{formula_at}
use Rattle.case_model.specs.Bytes.{list_of}
use Rattle.case_model.specs.Kinds as byTable
use Rattle.case_model.specs.Case as model
use Rattle.case_model.specs.Limits.{most_nodes, variables}
use Rattle.case_reader.specs.declared.parts.Triple.{Triple}

-- r is x, which is below the bound
pub record Is (x bound r : ℕ) : Type 0 where
  pub is : r ≡ x
  pub small : r < bound

abbrev pub triple : Triple → byTable.Triple
triple t = (t.0, t.1, t.2)

-- t is the triple of bytes x
pub record IsTriple (t : Triple) (x : byTable.Triple) : Type 0 where
  pub is : triple t ≡ x
  pub first : t.0 < 256
  pub second : t.1 < 256
  pub third : t.2 < 256

-- the free variables of each of the first 64 nodes, as a set: bit v for variable v; a node past the end has none
unfoldable pub free_sets : model.Case → List ℕ
free_sets c = list_of most_nodes (λ j. set_of variables (λ v. free v (formula_at (model.node_at c) j)))
