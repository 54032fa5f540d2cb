-- The state table that the code's graph holds: of a case, what its rule looks at.
use Rattle.std.specs.Prelude.{◌+◌, ◌*◌, ◌≡◌, ltb, get_or}
use Rattle.flc.specs.Sets.{both, has}
use Rattle.flc.specs.Formula.{Table, actions}
use Rattle.flc.specs.Vocabulary.{reduct}
use Rattle.case_model.specs.Case.{Case, table}
use Rattle.case_model.specs.Looking.{looked}
use Rattle.bisimilarity.specs.declared.graph.Graph.{Graph}

abbrev pub table_of : Graph → Table
table_of g = record {
  n = g.states;
  label = λ s. get_or g.labels s 0;
  step = λ s a t. both (has g.acts a) (both (ltb a actions) (has (get_or g.successors (8 * s + a) 0) t));
}

-- the graph of a case
pub record Drawn (c : Case) (g : Graph) : Type 0 where
  pub is : table_of g ≡ reduct (looked c) (table c)
