-- Directions: each has its kind, and a binder goes on just from what moved in its own.
use mathlib.Core.Bool.{Bool, true, false}
use mathlib.Core.Path.{◌≡◌, refl}
use Rattle.std.specs.Prelude.{Option, Some, None}
use Rattle.case_plan.specs.declared.moves.Direction.{Direction}
use Rattle.case_plan.specs.declared.moves.Direction.TheVariants.{Up, Down}
use Rattle.case_plan.specs.Moves.{direction, goes_on}

pub direction_kind : (d e : Bool) → direction d ≡ direction e → d ≡ e
direction_kind true true h = refl
direction_kind true false h = cc
direction_kind false true h = cc
direction_kind false false h = refl

pub goes_on-same : (d : Direction) (m : Option Direction) → goes_on d m ≡ true → m ≡ Some d
goes_on-same d None h = cc
goes_on-same Up (Some Up) h = refl
goes_on-same Up (Some Down) h = cc
goes_on-same Down (Some Up) h = cc
goes_on-same Down (Some Down) h = refl
