-- `law_shapes::shapes::shape_of` meets its contract: law by law.
use native.Mathlib.Numerals.{add-one}
use Rattle.law_shapes.proofs.Laws.{given}
use Rattle.law_shapes.proofs.shapes.shape_of.Goals as goal

pub returns-in-1 : goal.returns-in-1
returns-in-1 c = rw (c.then_some.ensures, c.in-1.is, c.is-chop.ensures, c.is_tau.ensures) (given c.args.j _ _)

pub returns-in-2 : goal.returns-in-2
returns-in-2 c = rw (c.then_some-in-2.ensures, c.in-2.is, c.is-chop.ensures, c.is_tau-in-2.ensures) (given c.args.j _ _)

pub returns-in-3 : goal.returns-in-3
returns-in-3 c = rw (c.then_some-in-3.ensures, c.in-3.is, c.is-chop.ensures, c.is_constant.ensures) (given c.args.j _ _)

pub returns-in-4 : goal.returns-in-4
returns-in-4 c =
    rw (c.then_some-in-4.ensures, c.in-4.is, c.is-chop.ensures, c.is-in-4.ensures, ← c.two-right.ensures, ← c.two-outer.ensures) (given c.args.j _ _)

pub returns-in-5 : goal.returns-in-5
returns-in-5 c =
    rw (c.then_some-in-5.ensures, c.in-5.is, c.is-chop.ensures, c.is-in-5.ensures, ← c.two-inner.ensures, ← c.two-last.ensures) (given c.args.j _ _)

pub returns-in-6 : goal.returns-in-6
returns-in-6 c =
    let either = rw add-one at c.two-either.ensures in
    rw (c.then_some-in-6.ensures, c.in-6.is, c.is-chop.ensures, c.is-in-6.ensures, ← c.two-left.ensures, ← c.two-right.ensures, ← either) (given c.args.j _ _)

pub returns-in-7 : goal.returns-in-7
returns-in-7 c =
    let both = rw add-one at c.two-both.ensures in
    rw (c.then_some-in-7.ensures, c.in-7.is, c.is-chop.ensures, c.is-in-7.ensures, ← c.two-left.ensures, ← c.two-right.ensures, ← both) (given c.args.j _ _)

pub returns-in-8 : goal.returns-in-8
returns-in-8 c = rw (c.then_some-in-8.ensures, c.in-8.is, c.is.ensures, c.is-2.ensures) (given c.args.j _ _)

pub returns-in-9 : goal.returns-in-9
returns-in-9 c = rw (c.then_some-in-9.ensures, c.in-9.is, c.is.ensures, c.is-2.ensures) (given c.args.j _ _)
