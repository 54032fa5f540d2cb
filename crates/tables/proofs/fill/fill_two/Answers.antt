-- `tables::fill::fill_two` meets its contract, operator by operator.
use Rattle.tables.proofs.Values.{operator_holds}
use Rattle.tables.proofs.fill.fill_two.Goals as goal

pub returns-in-Or : goal.returns-in-Or
returns-in-Or c =
    operator_holds c.args.left c.args.right c.in-Or.is c.union.ensures

pub returns-in-And : goal.returns-in-And
returns-in-And c =
    operator_holds c.args.left c.args.right c.in-And.is c.intersection.ensures

pub returns-in-Chop : goal.returns-in-Chop
returns-in-Chop c =
    operator_holds c.args.left c.args.right c.in-Chop.is c.chop.ensures
