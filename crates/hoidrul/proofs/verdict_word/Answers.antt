-- `hoidrul::verdict_word` meets its contract, by cases on the answer: set and rounds do not overlap.
use native.Mathlib.Omega.{arith}
use mathlib.Core.Path.{subst}
use Rattle.judge.specs.EnumNumbers.{judged_reply}
use Rattle.hoidrul.specs.Packing.{Fits, Brief}
use Rattle.hoidrul.proofs.verdict_word.Goals as goal

pub overflow_mul-result : goal.overflow_mul-result
overflow_mul-result c =
    let h = subst (λ x. Fits Brief (judged_reply x)) c.in-Ok.is c.requires in
    omega (arith, h)

pub overflow_add-result : goal.overflow_add-result
overflow_add-result c =
    let h = subst (λ x. Fits Brief (judged_reply x)) c.in-Ok.is c.requires in
    omega (arith, h)

pub refused-requires : goal.refused-requires
refused-requires c = subst (λ x. Fits Brief (judged_reply x)) c.in-Err.is c.requires

pub returns-in-Ok : goal.returns-in-Ok
returns-in-Ok c = rw c.in-Ok.is

pub returns-in-Err : goal.returns-in-Err
returns-in-Err c = rw c.in-Err.is c.refused.ensures
