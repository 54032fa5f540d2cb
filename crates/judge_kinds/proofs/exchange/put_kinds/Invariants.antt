-- `judge_kinds::exchange::put_kinds` meets its contract: one node more a turn.
use Prim.Native.Nat.{◌-◌, ◌≤◌}
use lib.ListN.{length}
use Rattle.case_model.specs.Areas.{Filled}
use Rattle.judge_kinds_model.specs.Exchange.{exchanged_byte}
use Rattle.judge_kinds.proofs.exchange.put_kinds.Given as goal

abbrev pub invariant-loop-j : goal.invariant-loop-j
invariant-loop-j l = Filled l.initial.out l.out 0 (length l.file) (exchanged_byte l.kinds l.file l.j) × (l.j ≤ l.j-end)

abbrev pub decreases-loop-j : goal.decreases-loop-j
decreases-loop-j l = l.j-end - l.j
