-- The rule of a valid case in a plan, from its parts: the nodes are those of the case, and so are scopes and binders.
use Prim.Native.Nat.{ℕ, ◌<◌}
use mathlib.Core.List.{List}
use mathlib.Core.Logic.{◌↔◌}
use mathlib.Core.Path.{◌≡◌, sym, ap, ◌∙◌, subst, subst₂, fun_ext}
use native.Mathlib.Omega.{arith}
use lib.Dec.{T}
use lib.ListN.{length, get_or, take}
use Rattle.std.proofs.lemmas.List.{get_or-take, length-take-le}
use Rattle.flc.specs.Sets.{has, set_of}
use Rattle.flc.specs.Formula.{free}
use Rattle.flc.specs.Nodes.{Node, bind, formula_at}
use Rattle.case_model.specs.Limits.{most_nodes, variables}
use Rattle.case_model.specs.Kinds.{node_of, node_holds}
use Rattle.case_model.specs.Case.{Case, node_at, rule}
use Rattle.case_model.specs.Valid.{ValidRule}
use Rattle.case_model.specs.Reach.{Reached, ReachSet}
use Rattle.case_model.proofs.Nodes.{fits_bind, node_fits, one_binder, closed_all}
use Rattle.case_reader.specs.declared.parts.Triple as read
use Rattle.case_reader.specs.Read.{triple, free_sets}
use Rattle.case_reader.proofs.Readers.{free_set_lem}
use Rattle.case_plan.specs.declared.plans.Plan as code
use Rattle.case_plan.specs.Plans.{Plan, nothing, decoded, nodes_of, scope_of, RulePlanned}
use Rattle.case_plan.specs.Parts.{NodesOf, Binders, BindersOf, nodes_in}
use Rattle.case_plan.proofs.Housing.{binders_same, binders_of_same}

binders_are : {c : Case} → ValidRule c → Binders (node_at c) (length c.nodes)
binders_are {c} valid = record {
  most = valid.most;
  low = λ j h e. (fits_bind (node_at c j) (node_fits valid j h) e).0;
  one = λ i j h k e q. one_binder valid i j h k e q;
}

-- ---- the binders among the nodes that there are
module _ {c : Case} (valid : ValidRule c) {m : ℕ} (em : m ≡ length c.nodes) {nodes : List read.Triple} (A : NodesOf c nodes) where
  count_there : length (take m nodes) ≡ length c.nodes
  count_there = length-take-le m nodes (omega (arith, A.long, em, valid.most)) ∙ em

  node_there : (j : ℕ) → j < length c.nodes → nodes_in (take m nodes) j ≡ node_at c j
  unfolding node_at
  node_there j h = ap (λ t. node_of (triple t)) (get_or-take m nodes j nothing (omega arith)) ∙ ap node_of (A.are j)

  pub binders_there : Binders (nodes_in (take m nodes)) (length (take m nodes))
  binders_there = rw count_there (binders_same node_there (binders_are valid))

  pub binders_of_case : {homes : List ℕ} → BindersOf (nodes_in (take m nodes)) (length (take m nodes)) homes → BindersOf (node_at c) (length c.nodes) homes
  binders_of_case {homes} H = binders_of_same node_there (subst (λ k. BindersOf (nodes_in (take m nodes)) k homes) count_there H)

-- ---- the rule
module _ {c : Case} (valid : ValidRule c) (q : code.Plan) (states : q.states ≡ length c.labels) (root : q.root ≡ c.root) (count : q.count ≡ length c.nodes)
    (A : NodesOf c q.nodes) (C : BindersOf (node_at c) (length c.nodes) q.binders) (F : List ℕ) (X : ℕ)
    (B : (j : ℕ) → j < most_nodes → get_or q.scopes j 0 ≡ scope_of (get_or F j 0) (has X j)) where
  abbrev p : Plan
  p = decoded q

  nodes : nodes_of p ≡ node_at c
  unfolding nodes_of node_at
  nodes = fun_ext (λ j. ap node_of (A.are j))

  scopes : F ≡ free_sets c → (j : ℕ) → j < length c.nodes → p.scopes j ≡ scope_of (set_of variables (λ v. free v (formula_at (node_at c) j))) (has X j)
  scopes f j h =
      let l : j < most_nodes = omega (arith, valid.most) in
      B j l ∙ ap (λ x. scope_of x (has X j)) (ap (λ F. get_or F j 0) f ∙ free_set_lem c j l)

  pub rule_planned : F ≡ free_sets c → ReachSet c X → RulePlanned c p
  unfolding rule
  rule_planned f x =
      let few : (j : ℕ) → j < p.count → j < length c.nodes = λ j h. omega (arith, count) in
      record {
        sound = record {
          most = rw count valid.most;
          root = rw (root, count) valid.root;
          kinds = λ j h. ap (node_holds j) (A.are j) ∙ valid.kinds j (few j h);
          homes = λ j {d} {v} {b} h e. C.is j (few j h) (subst (λ (N : ℕ → Node). N j ≡ bind d v b) nodes e);
          closed = λ v t. closed_all valid v (subst₂ (λ N r. T (free v (formula_at N r))) nodes root t);
          scoped = record {
            reach = X;
            reached = λ j h. subst₂ (λ N r. T (has X j) ↔ Reached N r j) (sym nodes) (sym root) (x.is j h);
            is = λ j h. scopes f j (few j h) ∙ ap (λ N. scope_of (set_of variables (λ v. free v (formula_at N j))) (has X j)) (sym nodes);
          };
        };
        states = states;
        nodes = nodes;
        root = root;
        count = count;
      }
