-- A rule as numbered nodes, each one layer of a tree, and the tree that a node stands for: docs/SPECIFICATION.md, clause 1.8.
use Rattle.std.specs.Prelude.{Bool, cond, ◌⊎◌, ◌≡◌, ℕ, zero, suc, eqb}
use Rattle.flc.specs.Functions.{Fun, approximant, rounds}
use Rattle.flc.specs.Formula.{Table, Op, Formula, atom, bottom, op, fix, put, mean, none}

-- a node that names no node, one that names two, and a binder with its variable and body
pub data Node : Type 0 where
  leaf : Formula → Node
  two : Op → ℕ → ℕ → Node
  bind : Bool → ℕ → ℕ → Node

-- clause 1.8: the nodes that a node names
abbrev pub Names : Node → ℕ → Type 0
Names (leaf p) i = ⊥
Names (two o a b) i = (i ≡ a) ⊎ (i ≡ b)
Names (bind d v b) i = i ≡ b

-- the tree of a node, from the trees of the nodes that it names
abbrev pub tree : Node → (ℕ → Formula) → Formula
tree (leaf p) φ = p
tree (two o a b) φ = op o (φ a) (φ b)
tree (bind d v b) φ = fix d v (φ b)

-- clause 1.8: the trees of the nodes below j, the only ones that node j can name
unfoldable pub lower : (ℕ → Node) → ℕ → ℕ → Formula
lower N zero i = atom bottom
lower N (suc j) i = cond (eqb i j) (tree (N j) (lower N j)) (lower N j i)

unfoldable pub formula_at : (ℕ → Node) → ℕ → Formula
formula_at N j = tree (N j) (lower N j)

-- clause 2.11: the rounds of the rule of a node, 0 unless it is a binder
unfoldable pub rounds_of : Table → Node → (ℕ → Formula) → ℕ
rounds_of L (leaf p) φ = 0
rounds_of L (two o a b) φ = 0
rounds_of L (bind d v b) φ = rounds d L.n (λ f. mean L (φ b) (put none v f))

-- clause 2.10: approximant k of the rule of a node; of one that is no binder, its meaning
unfoldable pub approximant_of : Table → Node → (ℕ → Formula) → ℕ → Fun
approximant_of L (leaf p) φ k = mean L p none
approximant_of L (two o a b) φ k = mean L (op o (φ a) (φ b)) none
approximant_of L (bind d v b) φ k = approximant d L.n (λ f. mean L (φ b) (put none v f)) k

unfoldable pub rounds_at : Table → (ℕ → Node) → ℕ → ℕ
rounds_at L N j = rounds_of L (N j) (lower N j)
