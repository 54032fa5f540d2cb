-- `case_writer::output::lay` meets its contract: after i turns the first i bytes are laid.
use Prim.Native.Nat.{◌+◌, ◌≤◌}
use lib.ListN.{length, get_or}
use Rattle.case_model.specs.Areas.{Laid}
use Rattle.case_model.specs.Bytes.{list_of}
use Rattle.case_writer.proofs.output.lay.Given as goal

abbrev pub invariant-loop-i : goal.invariant-loop-i
invariant-loop-i l = (l.i ≤ length l.bytes) × Laid l.initial.area l.area l.at (l.at + l.i) (list_of l.i (λ k. get_or l.bytes k 0))
