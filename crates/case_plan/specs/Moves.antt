-- In which direction a binder's approximants move: both engines stand on it.
use Rattle.std.specs.Prelude.{Bool, true, false, Option, Some, None}
use Rattle.case_plan.specs.declared.moves.Direction.{Direction}
use Rattle.case_plan.specs.declared.moves.Direction.TheVariants.{Up, Down}

-- clause 2.10: a least fixed point is approached from below, a greatest from above
abbrev pub direction : Bool → Direction
direction true = Up
direction false = Down

-- a binder goes on from what it has if what moved since, if anything is known of it, moved in its direction
abbrev pub goes_on : Direction → Option Direction → Bool
goes_on d None = false
goes_on Up (Some Up) = true
goes_on Up (Some Down) = false
goes_on Down (Some Up) = false
goes_on Down (Some Down) = true
