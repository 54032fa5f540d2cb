-- `case_reader::states::has` meets its contract: a set of 64 bits has nothing beyond them.
use mathlib.Core.Path.{sym, ◌∙◌}
use native.Mathlib.Omega.{arith}
use borrow.Author.Tests.{le-ltb}
use Rattle.flc.proofs.Masks.{has_beyond}
use Rattle.case_reader.proofs.states.has.Goals as goal

pub returns-else-i-lt64 : goal.returns-else-i-lt64
returns-else-i-lt64 c =
    le-ltb _ _ c.if-i-lt64.false ∙ sym (has_beyond 64 c.args.set c.args.i (omega arith) (omega arith))
