-- `hoidrul::count_word` meets its contract, by cases on the answer.
use mathlib.Core.Path.{subst}
use Rattle.case_file.specs.EnumNumbers.{written_reply}
use Rattle.hoidrul.specs.Packing.{Fits, Short}
use Rattle.hoidrul.proofs.count_word.Goals as goal

pub refused-requires : goal.refused-requires
refused-requires c = subst (λ x. Fits Short (written_reply x)) c.in-Err.is c.requires

pub returns-in-Err : goal.returns-in-Err
returns-in-Err c = rw c.in-Err.is c.refused.ensures
