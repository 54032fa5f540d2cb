-- `case_plan::parts::put_nodes` meets its contract: the loop writes one node a turn.
use Rattle.std.proofs.Common.{◌≡◌, ℕ, ◌<◌, length, get_or}
use Rattle.case_model.specs.Case.{read, at}
use Rattle.case_reader.specs.Read.{triple}
use Rattle.case_plan.specs.Plans.{nothing}
use Rattle.case_plan.proofs.parts.put_nodes.Given as goal

abbrev pub invariant-loop-j : goal.invariant-loop-j
invariant-loop-j l = record {
  long : length l.node-items ≡ l.count;
  put : (k : ℕ) → k < l.j → triple (get_or l.node-items k nothing) ≡ at (read l.file).nodes k;
}
