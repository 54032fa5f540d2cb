-- `hoidrul::refused` meets its contract: the parts of the word do not overlap.
use mathlib.Core.Path.{refl}
use native.Mathlib.Omega.{arith}
use Rattle.case_file.proofs.Refusals.{number_small}
use Rattle.hoidrul.proofs.refused.Goals as goal

pub overflow_mul-result : goal.overflow_mul-result
overflow_mul-result c = omega (arith, number_small c.args.refusal.reason, c.number-number.ensures)

pub overflow_add-result : goal.overflow_add-result
overflow_add-result c = omega (arith, number_small c.args.refusal.reason, c.number-number.ensures)

pub overflow_add-result-2 : goal.overflow_add-result-2
overflow_add-result-2 c = omega (arith, number_small c.args.refusal.reason, c.number-number.ensures)

pub returns : goal.returns
returns c = rw c.number-number.ensures refl
