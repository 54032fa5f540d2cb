-- `merged_starts::starts::put_starts` meets its contract: after s turns the states of the set below s are written.
use Rattle.case_writer.specs.Writing.{Writes}
use Rattle.merged_starts.proofs.Members.{below}
use Rattle.merged_starts.proofs.starts.put_starts.Given as goal

abbrev pub invariant-loop-s : goal.invariant-loop-s
invariant-loop-s l = Writes l.initial.output l.output (below l.set l.s)
