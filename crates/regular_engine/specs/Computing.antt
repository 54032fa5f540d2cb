-- What the recursion over nodes asks for and leaves, on the byte area. The private contracts cite these.
use Rattle.std.specs.Prelude.{ℕ, suc, ◌+◌, ◌*◌, ◌^◌, ◌≤◌, ◌<◌, Bool, cond, List, ◌≡◌, T, Option, Some, None, length}
use Rattle.flc.specs.Nodes.{bind}
use Rattle.case_model.specs.Case.{read, rule}
use Rattle.case_model.specs.Rows.{sound, refusals}
use Rattle.case_plan.specs.Moves.{direction, goes_on}
use Rattle.case_plan.specs.Plans.{Plan, nodes_of, SoundRule}
use Rattle.case_plan.specs.declared.moves.Direction.{Direction}
use Rattle.case_plan.specs.declared.moves.Direction.TheVariants.{Up, Down}
use Rattle.regular_model.specs.Judging.{large, whole_set}
use Rattle.regular_model.specs.Regular.{regular}
use Rattle.regular_model.specs.Values as sets
use Rattle.regular_model.specs.Blocks.{Ready, Within, Refreshed, Computed}
use Rattle.regular_model.specs.HeldSets.{held_at, blocks}
use Rattle.regular_sets.specs.Views.{frame}

-- in which direction a binder's set alone moved since a node was computed, by the numbers of the model's clauses: 0 if nothing is known
abbrev pub moved : Option Direction → ℕ
moved None = 0
moved (Some Up) = 1
moved (Some Down) = 2

-- the old set if the binder moves on in the direction `grown`, else no states (all states)
abbrev pub begins : Bool → Option Direction → ℕ → ℕ → ℕ
begins least grown n old = cond (goes_on (direction least) grown) old (sets.begin least n)

-- the nodes below k may be computed
pub record Area (f : List ℕ) (p : Plan) (w : List ℕ) (k act : ℕ) : Type 0 where
  pub rule : SoundRule p
  pub room : 64 * p.count ≤ length w
  pub mask : act < 2 ^ 18
  pub ready : Ready (frame (read f) p) (blocks w) k act

pub record Refreshable (f : List ℕ) (p : Plan) (w : List ℕ) (k old act : ℕ) : Type 0 where
  pub area : Area f p w k act
  pub small : old < 2 ^ 18

pub record RefreshedBy (f : List ℕ) (p : Plan) (w v : List ℕ) (k old act : ℕ) (grown : Option Direction) : Type 0 where
  pub long : length v ≡ length w
  pub is : Refreshed (frame (read f) p) (blocks w) (blocks v) k old act (moved grown)

pub record Computable (f : List ℕ) (p : Plan) (w : List ℕ) (j act : ℕ) : Type 0 where
  pub area : Area f p w (suc j) act
  pub within : Within (frame (read f) p) j act

pub record ComputedBy (f : List ℕ) (p : Plan) (w v : List ℕ) (j act : ℕ) (grown : Option Direction) : Type 0 where
  pub long : length v ≡ length w
  pub is : Computed (frame (read f) p) (blocks w) (blocks v) j act (moved grown)

-- node j is a binder
pub record Iterable (f : List ℕ) (p : Plan) (w : List ℕ) (j act : ℕ) (least : Bool) : Type 0 where
  pub computable : Computable f p w j act
  pub binds : nodes_of p j ≡ bind least (p.nodes j).1 (p.nodes j).2

-- ---- the whole rule
-- an accepted case with a regular rule, and area enough
pub record Runnable (f : List ℕ) (bytes : ℕ) : Type 0 where
  pub rows : refusals large f ≡ sound
  pub profile : T (regular (rule (read f)))
  pub room : 64 * length (read f).nodes ≤ bytes

-- the root's set lies at r: it is the meaning of the rule on all states
pub record Ran (f w v : List ℕ) (r : ℕ) : Type 0 where
  pub long : length v ≡ length w
  pub there : r + 32 ≤ length v
  pub is : held_at v r ≡ whole_set (read f)
