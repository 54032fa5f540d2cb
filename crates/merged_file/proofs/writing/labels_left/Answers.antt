-- `merged_file::writing::labels_left` meets its contract: there is one label less, if there is a removed one.
use native.Mathlib.Omega.{arith}
use Rattle.merged_file.proofs.writing.labels_left.Goals as goal

pub overflow_sub-result : goal.overflow_sub-result
overflow_sub-result c = omega arith

pub returns-then-removed-n : goal.returns-then-removed-n
returns-then-removed-n c = omega arith

pub returns-else-removed-n : goal.returns-else-removed-n
returns-else-removed-n c = omega arith
