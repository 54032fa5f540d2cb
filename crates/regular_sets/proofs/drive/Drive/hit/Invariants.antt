-- `regular_sets::drive::Drive::hit` meets its contract. The loop's invariant: what the search from i on finds is the answer.
use mathlib.Core.Path.{◌≡◌}
use Rattle.case_model.specs.Case.{read}
use Rattle.regular_model.specs.HeldSets.{held_at}
use Rattle.regular_model.specs.StepGroups.{hits}
use Rattle.regular_sets.proofs.drive.Drive.hit.Given as goal

abbrev pub invariant-loop-i : goal.invariant-loop-i
invariant-loop-i l =
    hits (read l.self.file.now).steps (held_at l.x 0) l.into l.from l.to ≡ hits (read l.self.file.now).steps (held_at l.x 0) l.into l.i l.to
