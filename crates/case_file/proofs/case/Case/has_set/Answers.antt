-- `case_file::case::Case::has_set` meets its contract: a shift by n leaves nothing of a number below 2 ^ n.
use borrow.Author.Rules.{rules}
use native.Mathlib.Omega.{arith}
use Rattle.case_file.proofs.Shifts.{set_shifted, set_any}
use Rattle.case_file.proofs.case.Case.has_set.Goals as goal

pub returns-then-n-lt64 : goal.returns-then-n-lt64
returns-then-n-lt64 c = set_shifted c.args.set c.args.self.counts.states

pub returns-else-n-lt64 : goal.returns-else-n-lt64
returns-else-n-lt64 c = set_any c.args.set c.args.self.counts.states (search rules) (omega arith)
