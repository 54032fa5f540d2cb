-- The table of kinds, the one place that knows their numbers: docs/SPECIFICATION.md, clauses 1.7 and 1.8.
-- What a triple is otherwise goes by its node, which names no node, two nodes, or is a binder (Rattle.flc.specs.Nodes).
use Rattle.std.specs.Prelude.{ℕ, Bool, true, false, ◌&&◌, List, [], ◌∷◌, eqb, ltb, length, get_or}
use Rattle.flc.specs.Sets.{singleton}
use Rattle.flc.specs.Formula.{Formula, Op, or, and, chop, atom, var, top, bottom, tau, prop, nprop, modal, actions}
use Rattle.flc.specs.Nodes.{Node, leaf, two, bind}
use Rattle.case_model.specs.Limits.{propositions, variables, groups}

-- a step (from, action, to), or a node (kind, A, B)
abbrev pub Triple : Type 0
Triple = ℕ × ℕ × ℕ

-- what an operand can be: nothing, written as 0; a number below a bound; the number of a lower node
pub data Operand : Type 0 where
  unused lower_node : Operand
  under : ℕ → Operand

-- x is such an operand of node j
abbrev pub fits : Operand → ℕ → ℕ → Bool
fits unused j x = eqb x 0
fits (under n) j x = ltb x n
fits lower_node j x = ltb x j

-- a line of the table: the node of operands a and b, and what each of them can be
pub record Kind : Type 0 where
  pub node : ℕ → ℕ → Node
  pub first : Operand
  pub second : Operand

abbrev pub leaf_kind : (ℕ → Formula) → Operand → Kind
leaf_kind p x = record { node = λ a b. leaf (p a); first = x; second = unused }

-- clauses 2.5 and 2.6: some step, or all, by an action of the group that the operand stands for; an action stands for the group that has it alone
abbrev pub modal_kind : Bool → (ℕ → ℕ) → Operand → Kind
modal_kind d group x = leaf_kind (λ a. atom (modal d (group a))) x

abbrev pub two_kind : Op → Kind
two_kind o = record { node = two o; first = lower_node; second = lower_node }

abbrev pub binder_kind : Bool → Kind
binder_kind d = record { node = bind d; first = under variables; second = lower_node }

-- clause 1.7: kinds 0 to 14, in order
unfoldable pub kinds : List Kind
kinds =
    leaf_kind (λ a. atom top) unused ∷ leaf_kind (λ a. atom bottom) unused
    ∷ leaf_kind (λ a. atom (prop a)) (under propositions) ∷ leaf_kind (λ a. atom (nprop a)) (under propositions)
    ∷ leaf_kind var (under variables)
    ∷ leaf_kind (λ a. atom tau) unused
    ∷ modal_kind true singleton (under actions) ∷ modal_kind false singleton (under actions)
    ∷ two_kind or ∷ two_kind and ∷ two_kind chop
    ∷ binder_kind true ∷ binder_kind false
    ∷ modal_kind true (λ a. a) (under groups) ∷ modal_kind false (λ a. a) (under groups) ∷ []

-- the numbers that the laws name: an operator's, τ's, and the last of those whose node is constant
abbrev pub kind_of : Op → ℕ
kind_of or = 8
kind_of and = 9
kind_of chop = 10

abbrev pub kind_of_tau : ℕ
kind_of_tau = 5

abbrev pub last_constant : ℕ
last_constant = 3

-- kind k; past the table's end, a constant
unfoldable pub kind_at : ℕ → Kind
kind_at k = get_or kinds k (leaf_kind (λ a. atom bottom) unused)

-- the node that a triple is
abbrev pub node_of : Triple → Node
node_of t = (kind_at t.0).node t.1 t.2

-- clauses 1.7, 1.8 and 8.5: node j is of a kind of the table, and its operands fit
abbrev pub node_holds : ℕ → Triple → Bool
node_holds j t = ltb t.0 (length kinds) && (fits (kind_at t.0).first j t.1 && fits (kind_at t.0).second j t.2)

-- clause 1.9: the node is a binder
abbrev pub is_binder : Node → Bool
is_binder (leaf p) = false
is_binder (two o a b) = false
is_binder (bind d v b) = true
