-- `case_plan::parts::scopes` meets its contract: the loop makes one scope a turn.
use Rattle.std.proofs.Common.{◌≡◌, ℕ, ◌<◌, get_or}
use Rattle.flc.specs.Sets.{has}
use Rattle.case_plan.specs.Plans.{scope_of}
use Rattle.case_plan.proofs.parts.scopes.Given as goal

abbrev pub invariant-loop-j : goal.invariant-loop-j
invariant-loop-j l = (k : ℕ) → k < l.j → get_or l.scope-items k 0 ≡ scope_of (get_or l.frees k 0) (has l.reached k)
