-- The parts of a plan, as the functions that make them have it. The private contracts cite these.
use Rattle.std.specs.Prelude.{ℕ, ◌*◌, ◌≤◌, ◌<◌, Bool, List, ◌≡◌, get_or, length}
use Rattle.flc.specs.Sets.{has, set_of}
use Rattle.flc.specs.Functions.{Fun}
use Rattle.flc.specs.Nodes.{Node, bind}
use Rattle.case_model.specs.Limits.{most_nodes, variables}
use Rattle.case_model.specs.Kinds.{node_of}
use Rattle.case_model.specs.Case.{Case, at}
use Rattle.case_reader.specs.declared.parts.Triple.{Triple}
use Rattle.case_reader.specs.Read.{triple}
use Rattle.case_plan.specs.declared.plans.Plan as code
use Rattle.case_plan.specs.Plans.{decoded, nothing, RulePlanned}

-- the nodes of the case, and nothing past the last
pub record NodesOf (c : Case) (nodes : List Triple) : Type 0 where
  pub long : length nodes ≡ most_nodes
  pub are : (j : ℕ) → triple (get_or nodes j nothing) ≡ at c.nodes j

-- the nodes of a list of triples
abbrev pub nodes_in : List Triple → ℕ → Node
nodes_in l j = node_of (triple (get_or l j nothing))

-- each binder of the first k nodes binds a variable that there is, and no other binds it
pub record Binders (N : ℕ → Node) (k : ℕ) : Type 0 where
  pub most : k ≤ most_nodes
  pub low : (j : ℕ) {d : Bool} {v b : ℕ} → j < k → N j ≡ bind d v b → v < variables
  pub one : (i j : ℕ) {d d' : Bool} {v b b' : ℕ} → i < k → j < k → N i ≡ bind d v b → N j ≡ bind d' v b' → i ≡ j

-- each of them stands at its variable
pub record BindersOf (N : ℕ → Node) (k : ℕ) (homes : List ℕ) : Type 0 where
  pub long : length homes ≡ variables
  pub is : (j : ℕ) {d : Bool} {x b : ℕ} → j < k → N j ≡ bind d x b → get_or homes x 0 ≡ j

-- for each proposition the states below n that have it
abbrev pub labelled : Case → ℕ → Fun
labelled c n i = set_of n (λ s. has (get_or c.labels s 0) i)

-- p has the rule of the case, with 2^n states' sets s, these sets of propositions and these rows of steps turned round
pub record WithTable (c : Case) (s : ℕ) (labels rows : List ℕ) (p : code.Plan) : Type 0 where
  pub planned : RulePlanned c (decoded p)
  pub size : p.size ≡ s
  pub limit : p.limit ≡ p.states * s
  pub props : p.props ≡ labels
  pub sources : p.sources ≡ rows
