-- `regular_sets::drive::Drive::holds` meets its contract. The loop's invariant: what the search from a on finds is the answer.
use Prim.Native.Nat.{ℕ, ◌+◌, ◌-◌}
use mathlib.Core.Bool.{Bool}
use mathlib.Core.Path.{◌≡◌}
use Rattle.flc.specs.Sets.{for_some}
use Rattle.case_model.specs.Case.{read}
use Rattle.regular_model.specs.HeldSets.{held_at}
use Rattle.regular_sets.specs.Views.{decided}
use Rattle.regular_sets.proofs.drive.Drive.holds.Given as goal

abbrev pub invariant-loop-a : goal.invariant-loop-a
invariant-loop-a l =
    let m = l.m in
    let test : ℕ → Bool = decided (read l.self.file.now).steps (held_at l.x 0) m.some m.group l.s in
    for_some (m.last - m.first) (λ i. test (m.first + i)) ≡ for_some (m.last - l.a) (λ i. test (l.a + i))
