-- `case_reader::kinds::KindTryFromUsize::try_from` meets its contract: each number is compared with the table's.
use mathlib.Core.Path.{sym}
use Rattle.case_model.specs.Kinds.{kinds, kind_at}
use Rattle.case_reader.proofs.Knowing.{known}
use Rattle.case_reader.proofs.kinds.KindTryFromUsize.try_from.Goals as goal

pub returns-in-2 : goal.returns-in-2
unfolding kind_at kinds
returns-in-2 c = (sym c.in-2.is, known c.in-2.is)
