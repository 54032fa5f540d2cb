-- How the sets of free variables and of reached nodes are computed, node by node. The private contracts cite this; the public ones say what the sets are.
use Rattle.std.specs.Prelude.{ℕ, zero, suc, ◌-◌, ◌^◌, cond, List, ltb, get_or, set, replicate}
use Rattle.std.specs.Int.Bits.{bit_or, bit_and}
use Rattle.flc.specs.Sets.{has}
use Rattle.flc.specs.Formula.{Formula, atom, var, op, fix}
use Rattle.flc.specs.Nodes.{Node, leaf, two, bind}
use Rattle.case_model.specs.Limits.{most_nodes, variables}

-- ---- free variables: bit v for variable v
-- the set of one variable, and a set without it
abbrev pub single : ℕ → ℕ
single v = cond (ltb v variables) (2 ^ v) 0

abbrev pub without : ℕ → ℕ → ℕ
without x v = cond (ltb v variables) (bit_and x (65535 - 2 ^ v)) x

-- those of a leaf, and of a node from the table's entries at the nodes that it names
abbrev pub leaf_mask : Formula → ℕ
leaf_mask (atom a) = 0
leaf_mask (var v) = single v
leaf_mask (op o p q) = 0
leaf_mask (fix d v p) = 0

abbrev pub mask_of : List ℕ → Node → ℕ
mask_of t (leaf p) = leaf_mask p
mask_of t (two o a b) = bit_or (get_or t a 0) (get_or t b 0)
mask_of t (bind d v b) = without (get_or t b 0) v

-- those of the nodes below j
abbrev pub masks : (ℕ → Node) → ℕ → List ℕ
masks N zero = replicate most_nodes 0
masks N (suc j) = set (masks N j) j (mask_of (masks N j) (N j))

-- ---- reached nodes: bit j for node j
-- x with node i
abbrev pub with_node : ℕ → ℕ → ℕ
with_node x i = cond (ltb i most_nodes) (bit_or x (2 ^ i)) x

-- x with the nodes that a node names
abbrev pub with_all : ℕ → Node → ℕ
with_all x (leaf p) = x
with_all x (two o a b) = with_node (with_node x a) b
with_all x (bind d v b) = with_node x b

-- the same, if it has node j, which is that node
abbrev pub with_named : ℕ → Node → ℕ → ℕ
with_named x n j = cond (has x j) (with_all x n) x

-- the same for all nodes below k, from the highest down
unfoldable pub spread : (ℕ → Node) → ℕ → ℕ → ℕ
spread N zero x = x
spread N (suc j) x = spread N j (with_named x (N j) j)
