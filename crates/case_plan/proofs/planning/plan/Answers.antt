-- `case_plan::planning::plan` meets its contract: a shift by at most 16 loses nothing, and each part is what it says.
use native.Mathlib.Omega.{arith}
use Rattle.case_model.proofs.SectionBytes.{section_small}
use Rattle.case_plan.proofs.StateTable.{power, planned}
use Rattle.case_plan.proofs.planning.plan.Goals as goal

pub returns : goal.returns
returns c =
    let bytes = section_small c.args.file.now (λ i. omega (arith, c.type_inv.file i)) 0 in
    planned c.requires bytes c.state_count-states.ensures.is
    (power c.state_count-states.result (omega (arith, c.requires.table.few, c.state_count-states.ensures.is)))
    c.with_table.ensures c.labelled.ensures c.step_rows.ensures
