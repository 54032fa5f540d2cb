-- Which variables a node depends on, and when the reached nodes are right all at once, each variable read as its binder's block has it.
use Rattle.std.specs.Prelude.{ℕ, ◌≤◌, ◌<◌, cond, List, ◌≡◌, T, ltb}
use Rattle.flc.specs.Sets.{has}
use Rattle.flc.specs.Formula.{Env, free}
use Rattle.flc.specs.Nodes.{formula_at}
use Rattle.case_model.specs.Reach.{Reached}
use Rattle.case_plan.specs.Plans.{Plan, nodes_of}
use Rattle.engine.specs.Blocks.{block, RightAt}

-- seen from below node k: the free variables that are bound from there on, and those on which the binders below k of the others depend
pub data Depends (p : Plan) (k : ℕ) : ℕ → ℕ → Type 0 where
  outer : {i u : ℕ} → T (free u (formula_at (nodes_of p) i)) → k ≤ p.homes u → Depends p k i u
  inner : {i u v : ℕ} → T (free v (formula_at (nodes_of p) i)) → p.homes v < k → Depends p k (p.homes v) u → Depends p k i u

-- the reached nodes below k that depend on variables of Q alone
abbrev pub Only : Plan → (ℕ → Type 0) → ℕ → ℕ → Type 0
Only p Q k i = Reached (nodes_of p) p.root i × ((u : ℕ) → Depends p k i u → Q u)

-- their blocks stayed
abbrev pub Stayed : Plan → (ℕ → Type 0) → List ℕ → List ℕ → ℕ → Type 0
Stayed p Q w v k = (i : ℕ) → i < k → Only p Q k i → (x : ℕ) → x < p.size → block p v i x ≡ block p w i x

-- each variable's function is what its binder's block holds
unfoldable pub as_bound : Plan → List ℕ → Env
as_bound p w v x = cond (ltb x p.size) (block p w (p.homes v) x) 0

-- the reached nodes below k that depend only on what is active are right so, if anything is active
abbrev pub Settled : Plan → ℕ → List ℕ → ℕ → Type 0
Settled p act w k = T (has act 16) → (i : ℕ) → i < k → Only p (λ u. T (has act u)) k i → RightAt p (as_bound p w) w i
