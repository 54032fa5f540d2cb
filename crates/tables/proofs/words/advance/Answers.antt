-- `tables::words::advance` meets its contract: the part from c on begins with the table, and the other lies below.
use mathlib.Core.Path.{ap}
use native.Mathlib.Omega.{arith}
use lib.ListN.{take, drop}
use Rattle.areas.proofs.Advancing.{advanced}
use Rattle.tables.proofs.words.advance.Goals as goal

pub returns : goal.returns
returns c =
    let s = c.split_at_mut-below.ensures in
    advanced _ _ _ _ s.front (ap (take c.args.count) s.back) (ap (drop c.args.count) s.back) (omega arith) (omega arith)
    c.advance.ensures.copied c.advance.ensures.told
