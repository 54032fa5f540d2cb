-- `bisim::entries::write_classes` meets its contract: 13 and nothing written, or the lowest alike state of each state.
use mathlib.Core.Path.{◌∙◌}
use native.Mathlib.Omega.{arith}
use Rattle.case_model.specs.Limits.{standard}
use Rattle.case_model.proofs.Valid.{accepted_valid}
use Rattle.case_file.proofs.Refusals.{of_reason}
use Rattle.bisim.proofs.Answering.{classing_short, classing_whole}
use Rattle.bisim.proofs.entries.write_classes.Goals as goal

pub draw-graph-requires : goal.draw-graph-requires
draw-graph-requires c = rw c.file.ensures at c.step_rows.ensures

pub write-requires : goal.write-requires
write-requires c =
    let a = c.args.case.accepted in
    (omega (arith, c.states-n.ensures, a.states, (accepted_valid standard _ a.rows).table.few), omega arith)

pub returns-then-out-n : goal.returns-then-out-n
returns-then-out-n c =
    let (count, area) = classing_short _ _ c.args.case.accepted c.states-n.ensures (omega arith) in
    record { result_value = of_reason _ c.into.ensures ∙ count; out_after = area }

pub returns : goal.returns
returns c =
    let (value, area) = classing_whole _ _ c.args.case.accepted c.states-n.ensures c.draw-graph.ensures c.alike_rows.ensures (omega arith) c.write.ensures in
    record { result_value = value; out_after = area }
