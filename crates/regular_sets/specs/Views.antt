-- What the code that makes sets is given, and what it leaves. The contracts of this crate and of the judge of regular rules cite these.
use Rattle.std.specs.Prelude.{ℕ, ◌+◌, ◌*◌, ◌≤◌, ◌<◌, Bool, true, false, List, ◌≡◌, length}
use Rattle.flc.specs.Sets.{both, has}
use Rattle.flc.specs.Formula.{Atom, prop, nprop, var}
use Rattle.flc.specs.Nodes.{leaf, bind}
use Rattle.case_model.specs.Kinds.{Triple}
use Rattle.case_model.specs.Bytes.{offset}
use Rattle.case_model.specs.Case.{Case, read, table}
use Rattle.case_model.specs.Valid.{ValidTable}
use Rattle.case_plan.specs.Plans.{Plan, nodes_of, SoundRule}
use Rattle.regular_model.specs.Blocks.{Frame, Sets, made}
use Rattle.regular_model.specs.HeldSets.{held_at, blocks, Stored}
use Rattle.regular_model.specs.StepGroups.{Indexed, group_at, hits}

-- ---- the state table
-- the steps lie in the file
abbrev pub StepsInside : List ℕ → Type 0
StepsInside f = offset f 1 + 3 * length (read f).steps ≤ length f

-- they begin there, and are not too many
pub record StepsAt (f : List ℕ) (steps : ℕ) : Type 0 where
  pub is : steps ≡ offset f 1
  pub small : steps < 65536
  pub few : length (read f).steps < 21846
  pub inside : StepsInside f

-- a valid table of up to 256 states, with the places of its steps
pub record Viewed (f index : List ℕ) : Type 0 where
  pub table : ValidTable 256 (read f)
  pub inside : StepsInside f
  pub places : Indexed (read f) index
  pub long : length index ≡ 2049

-- ---- atoms
-- a proposition; with the flag false, its complement
abbrev pub label_atom : Bool → ℕ → Atom
label_atom true p = prop p
label_atom false p = nprop p

-- clause 2.5: a step of state s by action a, which the group g has, leads into x; with the flag false: out of x
abbrev pub decided : List Triple → ℕ → Bool → ℕ → ℕ → ℕ → Bool
decided l x d g s a = both (has g a) (hits l x d (group_at l (8 * s + a)) (group_at l (8 * s + a + 1)))

-- each call of a test tells whether the state is in x
abbrev pub Tells : (ℕ → Bool → Type 0) → ℕ → Type 0
Tells test x = (s : ℕ) (b : Bool) → s < 256 → test s b → b ≡ has x s

-- ---- sets in the area
-- v is w with the set at b also at c; nothing has changed only if they were equal
pub record Advanced (w v : List ℕ) (b c : ℕ) (changed : Bool) : Type 0 where
  pub stored : Stored w v c (held_at w b)
  pub stood : changed ≡ false → held_at w b ≡ held_at w c

-- x is the set of w at a
pub record Taken (w : List ℕ) (a : ℕ) (x : List ℕ) : Type 0 where
  pub long : length x ≡ 32
  pub is : held_at x 0 ≡ held_at w a

-- ---- nodes
-- a case and its plan, as the recursion over nodes has them
abbrev pub frame : Case → Plan → Frame
frame c p = record { L = table c; N = nodes_of p; m = p.count; home = p.homes; scope = p.scopes }

-- all blocks have room and hold sets of states; the node is there and no binder, and a variable's binder is higher
pub record Fillable (f : List ℕ) (p : Plan) (w : List ℕ) (j : ℕ) : Type 0 where
  pub rule : SoundRule p
  pub room : 64 * p.count ≤ length w
  pub sets : Sets (frame (read f) p) (blocks w)
  pub there : j < p.count
  pub plain : (d : Bool) (v b : ℕ) → nodes_of p j ≡ bind d v b → ⊥
  pub bound : (v : ℕ) → nodes_of p j ≡ leaf (var v) → (j < p.homes v) × (p.homes v < p.count)

-- v is w with the set that is made for node j in its block
abbrev pub NodeMade : List ℕ → Plan → List ℕ → ℕ → List ℕ → Type 0
NodeMade f p w j v = Stored w v (64 * j) (made (frame (read f) p) (nodes_of p j) (blocks w))
