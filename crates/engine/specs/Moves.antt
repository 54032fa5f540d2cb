-- What a binder's table begins with, and what is known where the tables of binders moved since a node was last computed.
use Rattle.std.specs.Prelude.{ℕ, ◌-◌, Bool, cond, Option, Some, ◌≡◌}
use Rattle.flc.specs.Functions.{Fun}
use Rattle.flc.specs.Formula.{Env}
use Rattle.flc.specs.Order.{Below, GoodEnv}
use Rattle.case_plan.specs.declared.moves.Direction.{Direction}
use Rattle.case_plan.specs.Moves.{direction, goes_on}

-- clause 2.10: the old table if the binder moves on in the direction `grown`, else approximant 0
abbrev pub begins : Bool → Option Direction → ℕ → Fun → Fun
begins least grown size old x = cond (goes_on (direction least) grown) (old x) (cond least 0 (size - 1))

-- Q held of functions below ρ, in the order of the flag
pub record Older (n : ℕ) (d : Bool) (ρ : Env) (Q : Env → Type 0) : Type 0 where
  pub env : Env
  pub good : GoodEnv n env
  pub below : (v : ℕ) → Below d n (env v) (ρ v)
  pub held : Q env

-- since Q held, the functions moved only in the direction `grown`, if one is known
abbrev pub Grown : ℕ → Option Direction → Env → (Env → Type 0) → Type 0
Grown n grown ρ Q = (d : Bool) → grown ≡ Some (direction d) → Older n d ρ Q
