-- `regular_sets::nodes::fill_two` meets its contract, operator by operator: both nodes lie below, so their blocks end before that of node j.
use mathlib.Core.Path.{◌≡◌, sym, subst}
use mathlib.Core.Bool.{true}
use native.Mathlib.Omega.{arith}
use Rattle.case_model.specs.Kinds.{Triple, node_holds}
use Rattle.regular_sets.proofs.Made.{here, two_low, or_done, and_done, chop_done}
use Rattle.regular_sets.proofs.nodes.fill_two.Goals as goal

pub node-x-requires : goal.node-x-requires
node-x-requires c = let F = c.requires.ready in omega (arith, F.there, F.rule.most)

pub overflow_mul-a : goal.overflow_mul-a
overflow_mul-a c =
    let F = c.requires.ready in
    omega (arith, two_low F c.node-x.ensures c.args.operator c.requires.operands, F.there, F.rule.most)

pub overflow_mul-b : goal.overflow_mul-b
overflow_mul-b c =
    let F = c.requires.ready in
    omega (arith, two_low F c.node-x.ensures c.args.operator c.requires.operands, F.there, F.rule.most)

pub overflow_mul-c : goal.overflow_mul-c
overflow_mul-c c = let F = c.requires.ready in omega (arith, F.there, F.rule.most)

pub union-requires : goal.union-requires
union-requires c =
    let low = two_low c.requires.ready c.node-x.ensures c.args.operator c.requires.operands in
    (omega arith, omega arith, here c.requires.ready)

pub intersection-requires : goal.intersection-requires
intersection-requires c =
    let low = two_low c.requires.ready c.node-x.ensures c.args.operator c.requires.operands in
    (omega arith, omega arith, here c.requires.ready)

pub node-requires : goal.node-requires
node-requires c =
    let F = c.requires.ready in
    omega (arith, two_low F c.node-x.ensures c.args.operator c.requires.operands, F.there, F.rule.most)

pub modality_at-left-requires : goal.modality_at-left-requires
modality_at-left-requires c =
    let F = c.requires.ready in
    let a = c.node-x.result.1 in
    (a, subst (λ (t : Triple). node_holds a t ≡ true) (sym c.node.ensures) (F.rule.kinds a (omega (arith, two_low F c.node-x.ensures c.args.operator c.requires.operands, F.there))))

pub modal_set-requires : goal.modal_set-requires
modal_set-requires c =
    let F = c.requires.ready in
    (omega (arith, two_low F c.node-x.ensures c.args.operator c.requires.operands, here F), here F)

pub returns-in-Or : goal.returns-in-Or
returns-in-Or c =
    or_done c.requires.ready c.node-x.ensures c.args.operator c.requires.operands c.in-Or.is c.union.ensures

pub returns-in-And : goal.returns-in-And
returns-in-And c =
    and_done c.requires.ready c.node-x.ensures c.args.operator c.requires.operands c.in-And.is c.intersection.ensures

pub returns-in-Chop : goal.returns-in-Chop
returns-in-Chop c =
    chop_done c.requires.ready c.node-x.ensures c.args.operator c.requires.operands c.in-Chop.is
    c.node.ensures c.modality_at-left.ensures c.modal_set.ensures
