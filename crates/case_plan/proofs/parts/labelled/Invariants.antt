-- `case_plan::parts::labelled` meets its contract: each label adds its state to the sets of its propositions.
use Rattle.std.proofs.Common.{◌≡◌, ℕ, ◌<◌, length, get_or}
use Rattle.case_model.specs.Limits.{propositions}
use Rattle.case_model.specs.Case.{read}
use Rattle.case_plan.specs.Parts.{labelled}
use Rattle.case_plan.proofs.Labelling.{Joining}
use Rattle.case_plan.proofs.parts.labelled.Given as goal

abbrev pub invariant-loop-s : goal.invariant-loop-s
invariant-loop-s l = record {
  long : length l.sets ≡ propositions;
  are : (k : ℕ) → k < propositions → get_or l.sets k 0 ≡ labelled (read l.file) l.s k;
}

abbrev pub invariant-loop-i : goal.invariant-loop-i
invariant-loop-i l = Joining (read l.file) l.s l.i l.set-items
