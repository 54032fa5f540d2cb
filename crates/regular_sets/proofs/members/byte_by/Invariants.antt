-- `regular_sets::members::byte_by` meets its contract: one bit more a turn, the highest first.
use Prim.Native.Nat.{ℕ, ◌-◌, ◌^◌, ◌≤◌, ◌<◌}
use mathlib.Core.Path.{◌≡◌}
use Rattle.regular_sets.specs.Views.{Tells}
use Rattle.regular_sets.proofs.ByteLoops.{bits_from}
use Rattle.regular_sets.proofs.members.byte_by.Given as goal

abbrev pub invariant-loop-t : goal.invariant-loop-t
invariant-loop-t g l =
    (l.t ≤ 8) × (l.byte < 2 ^ (8 - l.t)) × ((x : ℕ) → Tells (goal.F-post g l.test) x → l.byte ≡ bits_from x l.i l.t)
