-- `rewritten_file::plan::Plan::put_nodes` meets its contract: after i turns the first i nodes are written.
use native.Mathlib.Omega.{arith}
use Rattle.case_reader.specs.Read.{triple}
use Rattle.rewritten_file.proofs.Renewed.{new_small}
use Rattle.rewritten_file.proofs.NewFile.{nodes_none, nodes_room, nodes_turn, nodes_all}
use Rattle.rewritten_file.proofs.plan.Plan.put_nodes.Goals as goal

pub loop-i-init : goal.loop-i-init
loop-i-init c = nodes_none _ _ _

pub triple-requires : goal.triple-requires
triple-requires c =
    let l = c.loop-i in
    let below = c.loop-i-test.true in
    let n = c.new_node in
    let small = new_small c.requires.0 l.i below n.result n.ensures in
    record { bytes = (small.first, small.second, small.third); room = omega (arith, nodes_room l.invariant below, l.invariant.written.laid.long, c.requires.1) }

pub loop-i-preserved : goal.loop-i-preserved
loop-i-preserved c =
    nodes_turn c.loop-i.invariant c.loop-i-test.true (triple c.new_node.result) c.new_node.ensures c.triple.ensures

pub returns : goal.returns
returns c = nodes_all c.loop-i.invariant c.requires.0 c.loop-i-test.false
