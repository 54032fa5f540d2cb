-- `bisim::entries::write` meets its contract. The loop's invariant: the bytes below s are written, the others are as they were.
use Prim.Native.Nat.{◌-◌, ◌≤◌}
use Rattle.flc.specs.Sets.{first}
use Rattle.case_model.specs.Bytes.{list_of}
use Rattle.bisimilarity.specs.Relations.{related}
use Rattle.case_model.specs.Areas.{Laid}
use Rattle.bisim.proofs.entries.write.Given as goal

abbrev pub invariant-loop-s : goal.invariant-loop-s
invariant-loop-s l = (l.s ≤ l.n) × Laid l.initial.out l.out 0 l.s (list_of l.s (λ u. first (related l.rows u) 0 u))

abbrev pub decreases-loop-s : goal.decreases-loop-s
decreases-loop-s l = l.n - l.s
