-- The tree of a node is made of the trees of the nodes that it names, if those are lower.
-- By induction on the node number: a table of lower trees holds the tree of each of its nodes.
use mathlib.Core.Path.{◌≡◌, refl, sym, ap, ap₂}
use mathlib.Core.Logic.{inl, inr}
use Prim.Native.Nat.{ℕ, zero, suc, ◌<◌}
use native.Mathlib.Nat.{not-suc-le-zero}
use native.Mathlib.Decide.{ℕ_discrete}
use native.Mathlib.Omega.{arith}
use borrow.Author.Tests.{eq-eqb, ne_eqb}
use Rattle.flc.specs.Formula.{Formula, op, fix}
use Rattle.flc.specs.Nodes.{Node, leaf, two, bind, Names, tree, lower, formula_at}

-- node j names only lower nodes
abbrev pub Lower : (ℕ → Node) → ℕ → Type 0
Lower N j = (i : ℕ) → Names (N j) i → i < j

-- a node's tree depends on the trees of the nodes that it names
pub tree_ext : (x : Node) (φ ψ : ℕ → Formula) → ((i : ℕ) → Names x i → φ i ≡ ψ i) → tree x φ ≡ tree x ψ
tree_ext (leaf p) φ ψ h = refl
tree_ext (two o a b) φ ψ h = ap₂ (op o) (h a (inl refl)) (h b (inr refl))
tree_ext (bind d v b) φ ψ h = ap (fix d v) (h b refl)

-- a table of lower trees holds the tree of each of its nodes
pub lower-at : (N : ℕ → Node) (k i : ℕ) → i < k → lower N k i ≡ formula_at N i
unfolding lower formula_at
lower-at N zero i h = absurd (not-suc-le-zero h)
lower-at N (suc k) i h =
    elim (ℕ_discrete i k)
    [ yes e ↦ rw (eq-eqb i k e) (ap (λ j. tree (N j) (lower N j)) (sym e)) | no e ↦ rw (ne_eqb i k e) (lower-at N k i (omega arith)) ]

-- the tree of a node that names only lower ones
pub formula_at_node : (N : ℕ → Node) (j : ℕ) → Lower N j → formula_at N j ≡ tree (N j) (formula_at N)
unfolding formula_at
formula_at_node N j l = tree_ext (N j) (lower N j) _ (λ i k. lower-at N j i (l i k))
