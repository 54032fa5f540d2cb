-- What judging needs of a case, worked out once. The contracts of the internal crates cite these; those of the entries do not.
-- The state table and the nodes are read off the plan, so that the crates which fill tables speak of a plan alone.
use Rattle.std.specs.Prelude.{ℕ, ◌+◌, ◌*◌, ◌^◌, ◌≤◌, ◌<◌, Bool, true, cond, ◌↔◌, ◌≡◌, T, ltb, get_or, length}
use Rattle.flc.specs.Sets.{both, has, set_of}
use Rattle.flc.specs.Functions.{Fun}
use Rattle.flc.specs.Formula.{Table, Env, mean, free, actions}
use Rattle.flc.specs.Nodes.{Node, bind, formula_at}
use Rattle.flc.specs.Order.{Sub}
use Rattle.case_model.specs.Limits.{most_nodes, most_states, propositions, variables}
use Rattle.case_model.specs.Kinds.{Triple, node_of, node_holds}
use Rattle.case_model.specs.Case as model
use Rattle.case_model.specs.Case.{Case}
use Rattle.case_model.specs.Reach.{Reached}
use Rattle.case_reader.specs.declared.parts.Triple as read
use Rattle.case_reader.specs.Read.{triple}
use Rattle.case_plan.specs.declared.plans.Plan as code

pub record Plan : Type 0 where
  pub states : ℕ
  pub size : ℕ
  pub limit : ℕ
  pub root : ℕ
  pub count : ℕ
  pub nodes : ℕ → Triple
  pub scopes : ℕ → ℕ
  pub homes : ℕ → ℕ
  pub props : ℕ → ℕ
  pub sources : ℕ → ℕ

-- a node past the end
abbrev pub nothing : read.Triple
nothing = record { 0 = 0; 1 = 0; 2 = 0 }

-- what the code's plan says
abbrev pub decoded : code.Plan → Plan
decoded p = record {
  states = p.states;
  size = p.size;
  limit = p.limit;
  root = p.root;
  count = p.count;
  nodes = λ j. triple (get_or p.nodes j nothing);
  scopes = λ j. get_or p.scopes j 0;
  homes = λ v. get_or p.binders v 0;
  props = λ i. get_or p.props i 0;
  sources = λ k. get_or p.sources k 0;
}

-- ---- the state table and the nodes that a plan has
abbrev pub table_of : Plan → Table
table_of p = record {
  n = p.states;
  label = λ s. set_of propositions (λ i. has (p.props i) s);
  step = λ s a t. both (both (ltb a actions) (ltb t most_states)) (has (p.sources (8 * t + a)) s);
}

unfoldable pub nodes_of : Plan → ℕ → Node
nodes_of p j = node_of (p.nodes j)

-- the function of node j, given functions for its free variables
abbrev pub meaning : Plan → ℕ → Env → Fun
meaning p j ρ = mean (table_of p) (formula_at (nodes_of p) j) ρ

-- ---- what a node depends on: its free variables, and two marks beyond all variables
-- bit 16, which each node has, and bit 17, of a node that the root does not reach
abbrev pub every_mark : ℕ
every_mark = 65536

abbrev pub unreached_mark : ℕ
unreached_mark = 131072

abbrev pub scope_of : ℕ → Bool → ℕ
scope_of free reached = free + every_mark + cond reached 0 unreached_mark

-- u has no member that act has not
abbrev pub Within : ℕ → ℕ → Type 0
Within u act = Sub true 18 u act

abbrev pub free_set : Plan → ℕ → ℕ
free_set p j = set_of variables (λ v. free v (formula_at (nodes_of p) j))

-- ---- what holds of the plan of an accepted case
pub record Sized (p : Plan) : Type 0 where
  pub few : p.states ≤ most_states
  pub size : p.size ≡ 2 ^ p.states
  pub props : (i : ℕ) → i < propositions → p.props i < p.size
  pub sources : (k : ℕ) → k < 128 → p.sources k < p.size

-- the scopes of the nodes, from the set of those that are reached
pub record Scoped (p : Plan) : Type 0 where
  pub reach : ℕ
  pub reached : (j : ℕ) → j < most_nodes → T (has reach j) ↔ Reached (nodes_of p) p.root j
  pub is : (j : ℕ) → j < p.count → p.scopes j ≡ scope_of (free_set p j) (has reach j)

-- of its rule, however many states there are
pub record SoundRule (p : Plan) : Type 0 where
  pub most : p.count ≤ most_nodes
  pub root : p.root < p.count
  pub kinds : (j : ℕ) → j < p.count → node_holds j (p.nodes j) ≡ true
  pub homes : (j : ℕ) {d : Bool} {v b : ℕ} → j < p.count → nodes_of p j ≡ bind d v b → p.homes v ≡ j
  pub closed : (v : ℕ) → T (free v (formula_at (nodes_of p) p.root)) → ⊥
  pub scoped : Scoped p

pub record Sound (p : Plan) : Type 0 where
  pub sized : Sized p
  pub limit : p.limit ≡ p.states * p.size
  pub rule : SoundRule p

-- p has the rule of the case, and how many states there are
pub record RulePlanned (c : Case) (p : Plan) : Type 0 where
  pub sound : SoundRule p
  pub states : p.states ≡ length c.labels
  pub nodes : nodes_of p ≡ model.node_at c
  pub root : p.root ≡ c.root
  pub count : p.count ≡ length c.nodes

-- p is a plan of the case
pub record Planned (c : Case) (p : Plan) : Type 0 where
  pub sound : Sound p
  pub table : table_of p ≡ model.table c
  pub nodes : nodes_of p ≡ model.node_at c
  pub root : p.root ≡ c.root
  pub count : p.count ≡ length c.nodes
