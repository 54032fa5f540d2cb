-- `judge_case::page::Page::line` meets its contract: a text, a number and the line end, one after the other.
use native.Mathlib.Omega.{arith}
use Rattle.case_model.proofs.Laying.{laid_after}
use Rattle.judge_case.proofs.Texts.{numeral_short}
use Rattle.judge_case.proofs.page.Page.line.Goals as goal

pub text-requires-2 : goal.text-requires-2
text-requires-2 c =
    let few = numeral_short c.args.n in
    omega (arith, c.text.ensures.ends, c.number.ensures.ends, few)

pub returns : goal.returns
returns c = laid_after c.text.ensures (laid_after c.number.ensures c.text-2.ensures)
