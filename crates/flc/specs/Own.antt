-- Each variable of a rule read as its own fixed point, all at once: docs/SPECIFICATION.md, clauses 2.8 and 2.9. The contracts of the code that fills the
-- tables of all nodes cite it; what the entries promise does not.
use Rattle.std.specs.Prelude.{Bool, false, cond, ℕ, zero, suc, eqb}
use Rattle.flc.specs.Formula.{Table, Env, mean, none}
use Rattle.flc.specs.Nodes.{Node, leaf, two, bind, formula_at}

-- the node binds the variable w
abbrev pub binds : Node → ℕ → Bool
binds (leaf p) w = false
binds (two o a b) w = false
binds (bind d v b) w = eqb w v

-- the variable that node j binds gets its function, given functions ρ
abbrev pub with_binder : Table → (ℕ → Node) → ℕ → Env → Env
with_binder L N j ρ v = cond (binds (N j) v) (mean L (formula_at N j) ρ) (ρ v)

-- from node k - 1 down
unfoldable pub own_below : Table → (ℕ → Node) → ℕ → Env → Env
own_below L N zero ρ = ρ
own_below L N (suc j) ρ = own_below L N j (with_binder L N j ρ)

-- of a rule of m nodes
unfoldable pub own : Table → (ℕ → Node) → ℕ → Env
own L N m = own_below L N m none
