-- `case_plan::planning::with_table` meets its contract: each part is what it says.
use mathlib.Core.Path.{refl}
use Rattle.case_plan.proofs.Assembling.{binders_there, binders_of_case, rule_planned}
use Rattle.case_plan.proofs.planning.with_table.Goals as goal

pub binders-plan-requires : goal.binders-plan-requires
binders-plan-requires c = binders_there c.requires.0 c.node_count-count.ensures.is c.put_nodes.ensures

pub returns : goal.returns
returns c =
    let valid = c.requires.0 in record {
      planned = rule_planned valid _ c.state_count-states.ensures.is c.root-root.ensures.is c.node_count-count.ensures.is
          c.put_nodes.ensures (binders_of_case valid c.node_count-count.ensures.is c.put_nodes.ensures c.binders-plan.ensures)
          _ _ c.scopes.ensures c.masks-frees.ensures (c.reached-reached.ensures valid);
      size = refl;
      limit = refl;
      props = refl;
      sources = refl;
    }
