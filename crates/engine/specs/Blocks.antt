-- Blocks of the work area: node j's table is the words from j × 2^n on, and it is right if it holds the node's function.
use Rattle.std.specs.Prelude.{ℕ, ◌*◌, ◌≤◌, ◌<◌, Bool, cond, List, ◌≡◌, ltb, length, get_or}
use Rattle.flc.specs.Sets.{both, has}
use Rattle.flc.specs.Functions.{Fun}
use Rattle.flc.specs.Formula.{Op, Env, var, mean}
use Rattle.flc.specs.Nodes.{Node, leaf, two, bind}
use Rattle.flc.specs.Order.{Agree}
use Rattle.case_model.specs.Limits.{variables}
use Rattle.case_model.specs.Areas.{from, Filled}
use Rattle.case_plan.specs.Plans.{Plan, table_of, nodes_of, meaning, Within, Sound}
use Rattle.tables.specs.Tables.{combined}

abbrev pub block : Plan → List ℕ → ℕ → Fun
block p w j = from w (j * p.size)

-- the words from block k on are as they were
pub record Kept (p : Plan) (w v : List ℕ) (k : ℕ) : Type 0 where
  pub long : length v ≡ length w
  pub above : (q : ℕ) → k * p.size ≤ q → get_or v q 0 ≡ get_or w q 0

-- ---- what is active: a set of variables, with the mark that each node has
-- the functions of the active variables are what their binders' blocks hold
unfoldable pub env : Plan → ℕ → List ℕ → Env
env p act w v = cond (both (ltb v variables) (has act v)) (block p w (p.homes v)) (λ x. 0)

-- block j is the function of node j ..
abbrev pub RightAt : Plan → Env → List ℕ → ℕ → Type 0
RightAt p ρ w j = Agree p.states (block p w j) (meaning p j ρ)

-- .. and so for all nodes below k that depend only on what is active
abbrev pub Right : Plan → Env → ℕ → List ℕ → ℕ → Type 0
Right p ρ act w k = (i : ℕ) → i < k → Within (p.scopes i) act → RightAt p ρ w i

-- ---- a node that is no binder
-- its table from the tables t of the nodes and the functions ρ of the variables
abbrev pub value : Plan → Node → (ℕ → Fun) → Env → Fun
value p (leaf φ) t ρ = mean (table_of p) φ ρ
value p (two o a b) t ρ = combined o (t a) (t b)
value p (bind d v b) t ρ = t b

-- all tables have room, the node is there and no binder, a variable's binder is higher, and an operator's second table has entries of sets
pub record Fillable (p : Plan) (w : List ℕ) (j : ℕ) : Type 0 where
  pub sound : Sound p
  pub room : p.count * p.size ≤ length w
  pub there : j < p.count
  pub plain : (d : Bool) (v b : ℕ) → nodes_of p j ≡ bind d v b → ⊥
  pub bound : (v : ℕ) → nodes_of p j ≡ leaf (var v) → (j < p.homes v) × (p.homes v < p.count)
  pub sets : (o : Op) (a b : ℕ) → nodes_of p j ≡ two o a b → (x : ℕ) → x < p.size → block p w b x < p.size

-- v is w with the table of node j
abbrev pub NodeFilled : Plan → List ℕ → List ℕ → ℕ → Type 0
NodeFilled p w v j = Filled w v (j * p.size) p.size (value p (nodes_of p j) (block p w) (λ v. block p w (p.homes v)))
