-- `merged_starts::starts::merged_starts` meets its contract: after i turns the states that stand for the first i start states are gathered.
use mathlib.Core.Path.{◌≡◌}
use Rattle.case_model.specs.Case.{read}
use Rattle.case_model.specs.Merging.{moved}
use Rattle.merged_starts.proofs.Members.{gathered}
use Rattle.merged_starts.proofs.starts.merged_starts.Given as goal

abbrev pub invariant-loop-i : goal.invariant-loop-i
invariant-loop-i l = l.set ≡ gathered (moved l.pair.kept l.pair.removed) (read l.file).starts l.i
