-- `judge_case::page::Page::state` meets its contract: the number, then the word.
use native.Mathlib.Omega.{arith}
use Rattle.case_model.proofs.Laying.{laid_after}
use Rattle.judge_case.proofs.Texts.{numeral_short}
use Rattle.judge_case.proofs.page.Page.state.Goals as goal

pub yes_or_no-requires : goal.yes_or_no-requires
yes_or_no-requires c = omega (arith, c.number.ensures.ends, numeral_short c.args.s)

pub returns : goal.returns
returns c = laid_after c.number.ensures c.yes_or_no.ensures
