-- `rewritten_file::plan::Plan::put_nodes` meets its contract: after i turns the first i nodes are written.
use Rattle.rewritten_file.proofs.NewFile.{NodesWritten}
use Rattle.rewritten_file.proofs.plan.Plan.put_nodes.Given as goal

abbrev pub invariant-loop-i : goal.invariant-loop-i
invariant-loop-i l = NodesWritten l.file l.self l.initial.output l.output l.i
