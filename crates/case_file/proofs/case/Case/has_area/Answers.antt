-- `case_file::case::Case::has_area` meets its contract: the words, divided by those of two tables, are as many as there are nodes.
use borrow.Author.Rules.{rules}
use native.Mathlib.Omega.{arith}
use Rattle.case_file.proofs.Shifts.{area_shifted, area_none}
use Rattle.case_file.proofs.case.Case.has_area.Goals as goal

pub returns-then-n-lt63 : goal.returns-then-n-lt63
returns-then-n-lt63 c = let a = c.args in area_shifted a.self.counts.nodes a.words a.self.counts.states

pub returns-else-n-lt63 : goal.returns-else-n-lt63
returns-else-n-lt63 c = let a = c.args in area_none a.self.counts.nodes a.words a.self.counts.states (search rules) (omega arith)
