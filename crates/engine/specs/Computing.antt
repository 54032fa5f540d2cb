-- What the recursion over nodes asks for and leaves. The functions of the active variables are read off their binders' blocks, which no call changes.
use Rattle.std.specs.Prelude.{ℕ, suc, ◌*◌, ◌^◌, ◌≤◌, ◌<◌, Bool, false, List, ◌⊎◌, ◌≡◌, T, Option, None, length}
use Rattle.std.specs.Int.Bits.{bit_or}
use Rattle.flc.specs.Sets.{has}
use Rattle.flc.specs.Functions.{Fun, rounds}
use Rattle.flc.specs.Formula.{Table, Formula, Env, put, mean}
use Rattle.flc.specs.Nodes.{Node, leaf, two, bind, formula_at, rounds_at}
use Rattle.flc.specs.Order.{Agree, Good, GoodEnv}
use Rattle.flc.specs.Iterates.{iterate, Rising}
use Rattle.flc.specs.Own.{own}
use Rattle.case_model.specs.Limits.{variables}
use Rattle.case_model.specs.Reach.{Reached}
use Rattle.case_plan.specs.declared.moves.Direction.{Direction}
use Rattle.case_plan.specs.Moves.{direction}
use Rattle.case_plan.specs.Plans.{Plan, table_of, nodes_of, meaning, Within, Sound}
use Rattle.engine.specs.declared.refresh.Binder.{Binder}
use Rattle.engine.specs.Blocks.{block, Kept, env, Right, RightAt}
use Rattle.engine.specs.Moves.{Grown}
use Rattle.engine.specs.Dependence.{Stayed, Settled}

-- ---- the nodes below k
-- the binders of the active variables are not among them, and have monotone functions
pub record Ready (p : Plan) (w : List ℕ) (k act : ℕ) : Type 0 where
  pub sound : Sound p
  pub room : p.count * p.size ≤ length w
  pub below : k ≤ p.count
  pub mask : act < 2 ^ 18
  pub mark : T (has act 16)
  pub homes : (v : ℕ) → v < variables → T (has act v) → (k ≤ p.homes v) × (p.homes v < p.count)
  pub good : GoodEnv p.states (env p act w)

-- those that depend only on the old are right; and all were right before one table moved, if its direction is told
pub record Refreshable (p : Plan) (w : List ℕ) (k old act : ℕ) (grown : Option Direction) : Type 0 where
  pub ready : Ready p w k act
  pub small : old < 2 ^ 18
  pub less : Within old act
  pub right : Right p (env p act w) old w k
  pub settled : Settled p old w k
  pub older : Grown p.states grown (env p act w) (λ σ. Right p σ act w k)

-- all are right that depend only on what is active; a block that does not depend on what is new stayed
pub record Refreshed (p : Plan) (w v : List ℕ) (k old act : ℕ) : Type 0 where
  pub kept : Kept p w v k
  pub right : Right p (env p act w) act v k
  pub settled : Settled p act v k
  pub stayed : T (has old 16) → Stayed p (λ u. T (has act u) → T (has old u)) w v k

-- ---- node j
-- u is bound elsewhere
abbrev pub NotAt : Plan → ℕ → ℕ → Type 0
NotAt p j u = p.homes u ≡ j → ⊥

pub record Computable (p : Plan) (w : List ℕ) (j act : ℕ) (grown : Option Direction) : Type 0 where
  pub ready : Ready p w (suc j) act
  pub within : Within (p.scopes j) act
  pub right : Right p (env p act w) act w j
  pub settled : Settled p act w j
  pub older : Grown p.states grown (env p act w) (λ σ. RightAt p σ w j)

-- a binder's rounds, given functions for the free variables; 0 of another node
abbrev pub rounds_in : Table → Node → (ℕ → Formula) → Env → ℕ
rounds_in L (leaf p) φ ρ = 0
rounds_in L (two o a b) φ ρ = 0
rounds_in L (bind d v b) φ ρ = rounds d L.n (λ f. mean L (φ b) (put ρ v f))

-- it is right too; if it started anew, after r rounds; a block that does not depend on a variable bound there stayed
pub record Computed (p : Plan) (w v : List ℕ) (j act : ℕ) (grown : Option Direction) (r : ℕ) : Type 0 where
  pub kept : Kept p w v (suc j)
  pub right : Right p (env p act w) act v (suc j)
  pub settled : Settled p act v (suc j)
  pub stayed : Stayed p (NotAt p j) w v j
  pub rounds : grown ≡ None → r ≡ rounds_in (table_of p) (nodes_of p j) (formula_at (nodes_of p)) (env p act w)

-- ---- the rounds of a binder
-- the body's function, given one for the binder's variable
abbrev pub body : Plan → Env → Binder → Fun → Fun
body p ρ x f = meaning p x.body (put ρ x.variable f)

-- what is active in its rounds
abbrev pub wider : ℕ → Binder → ℕ
wider act x = bit_or act (2 ^ x.variable)

-- x is a binder; the nodes below it that do not see its variable are right
pub record Binds (p : Plan) (w : List ℕ) (x : Binder) (act : ℕ) : Type 0 where
  pub least : Bool
  pub is : nodes_of p x.node ≡ bind least x.variable x.body
  pub ready : Ready p w (suc x.node) act
  pub within : Within (p.scopes x.node) act
  pub right : Right p (env p act w) act w x.node
  pub settled : Settled p act w x.node

-- one round: from a monotone table; all nodes below were right before it moved, if its direction is told
pub record Roundable (p : Plan) (w : List ℕ) (x : Binder) (act : ℕ) (moved : Option Direction) : Type 0 where
  pub binds : Binds p w x act
  pub good : Good p.states (block p w x.node)
  pub older : Grown p.states moved (put (env p act w) x.variable (block p w x.node)) (λ σ. Right p σ (wider act x) w x.node)

-- to what the body makes of it; the nodes below are those of the table before, and nothing changed just if that is the table after, with which
-- they then are right
pub record Rounded (p : Plan) (w v : List ℕ) (x : Binder) (act : ℕ) (changed : Bool) : Type 0 where
  pub kept : Kept p w v (suc x.node)
  pub next : Agree p.states (block p v x.node) (body p (env p act w) x (block p w x.node))
  pub lower : Right p (put (env p act w) x.variable (block p w x.node)) (wider act x) v x.node
  pub stood : changed ≡ false → Agree p.states (block p w x.node) (block p v x.node)
  pub stands : Agree p.states (block p w x.node) (block p v x.node) → changed ≡ false
  pub settled : Settled p act v x.node
  pub closed : changed ≡ false → Settled p (wider act x) v x.node
  pub stayed : Stayed p (NotAt p x.node) w v x.node

-- round after round, from a table that moves in the direction `way`, be it that of the binder or not
pub record Iterable (p : Plan) (w : List ℕ) (x : Binder) (act : ℕ) (way : Direction) : Type 0 where
  pub binds : Binds p w x act
  pub rises : Bool
  pub along : way ≡ direction rises
  pub rising : Rising rises p.states (body p (env p act w) x) (block p w x.node)

-- what they come to
abbrev pub after : Plan → List ℕ → Binder → ℕ → ℕ → Fun
after p w x act = iterate (body p (env p act w) x) (block p w x.node)

-- one more changes nothing, and the nodes below are right with the last table
pub record Still (p : Plan) (w v : List ℕ) (x : Binder) (act r : ℕ) : Type 0 where
  pub stands : Agree p.states (after p w x act r) (after p w x act (suc r))
  pub settled : Settled p (wider act x) v x.node

-- none of the r rounds changed nothing; there were as many as may be, or they stand still
pub record Iterated (p : Plan) (w v : List ℕ) (x : Binder) (act most r : ℕ) : Type 0 where
  pub few : r ≤ most
  pub kept : Kept p w v (suc x.node)
  pub right : Right p (env p act w) act v x.node
  pub now : Agree p.states (block p v x.node) (after p w x act r)
  pub moved : (i : ℕ) → i < r → Agree p.states (after p w x act i) (after p w x act (suc i)) → ⊥
  pub ends : (r ≡ most) ⊎ Still p w v x act r
  pub settled : Settled p act v x.node
  pub stayed : Stayed p (NotAt p x.node) w v x.node

-- ---- the whole rule
pub record Runnable (p : Plan) (words : ℕ) : Type 0 where
  pub sound : Sound p
  pub room : p.count * p.size ≤ words

-- every reached node's table is right, each variable read as its own fixed point; the root took r rounds
pub record Ran (p : Plan) (w v : List ℕ) (r : ℕ) : Type 0 where
  pub long : length v ≡ length w
  pub right : (j : ℕ) → Reached (nodes_of p) p.root j → RightAt p (own (table_of p) (nodes_of p) p.count) v j
  pub rounds : r ≡ rounds_at (table_of p) (nodes_of p) p.root
