-- `regular_sets::nodes::fill` meets its contract, kind by kind: the line of a kind gives the ranges of its operands.
use mathlib.Core.Logic.{inr}
use mathlib.Core.Path.{ap}
use native.Mathlib.Omega.{arith}
use Rattle.regular_model.specs.HeldSets.{blocks}
use Rattle.regular_sets.proofs.Made.{stored_as, here, kind_done, operand_fits, variable_low, operator_is, no_binder}
use Rattle.regular_sets.proofs.nodes.fill.Goals as goal

pub node-x-requires : goal.node-x-requires
node-x-requires c = let F = c.requires in omega (arith, F.there, F.rule.most)

pub overflow_mul-c : goal.overflow_mul-c
overflow_mul-c c = let F = c.requires in omega (arith, F.there, F.rule.most)

pub fill_atom-requires : goal.fill_atom-requires
fill_atom-requires c =
    let F = c.requires in (operand_fits F c.node-x.ensures c.kind_of.ensures c.in-Atom.is, here F)

pub binder-requires : goal.binder-requires
binder-requires c =
    (variable_low c.requires c.node-x.ensures c.kind_of.ensures c.in-Variable.is).0

pub overflow_mul-binder : goal.overflow_mul-binder
overflow_mul-binder c =
    let F = c.requires in
    let low = variable_low F c.node-x.ensures c.kind_of.ensures c.in-Variable.is in
    omega (arith, c.binder.ensures, low.2, F.rule.most)

pub copy-requires : goal.copy-requires
copy-requires c =
    let F = c.requires in
    let low = variable_low F c.node-x.ensures c.kind_of.ensures c.in-Variable.is in
    (omega (arith, c.binder.ensures, low.2, F.room), here F, inr (omega (arith, c.binder.ensures, low.1)))

pub fill_two-requires : goal.fill_two-requires
fill_two-requires c =
    let F = c.requires in
    record { ready = F; operands = operator_is F c.node-x.ensures c.kind_of.ensures c.in-Two.is }

pub returns-in-Atom : goal.returns-in-Atom
returns-in-Atom c =
    kind_done c.requires c.node-x.ensures c.kind_of.ensures c.in-Atom.is c.fill_atom.ensures

pub returns-in-Variable : goal.returns-in-Variable
returns-in-Variable c =
    kind_done c.requires c.node-x.ensures c.kind_of.ensures c.in-Variable.is
    (stored_as c.copy.ensures (ap (blocks c.args.work.now) c.binder.ensures))

pub returns-in-Binder : goal.returns-in-Binder
returns-in-Binder c =
    absurd (no_binder c.requires c.node-x.ensures c.kind_of.ensures c.in-Binder.is)
