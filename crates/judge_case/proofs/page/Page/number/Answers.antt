-- `judge_case::page::Page::number` meets its contract: the digits are as few as hold a number of 64 bits, at most 20, and so are its numeral.
use mathlib.Core.Path.{◌∙◌}
use native.Mathlib.Omega.{arith}
use Rattle.case_model.proofs.Laying.{laid_as}
use Rattle.judge_case.proofs.Texts.{fewest, few_digits}
use Rattle.judge_case.proofs.page.Page.number.Goals as goal

pub returns : goal.returns
returns c =
    let least = c.decimal-count.ensures.len in
    let few = few_digits c.args.n c.decimal-count.result (omega (arith, c.ranges.n)) least in
    laid_as (c.decimal-count.ensures.digits ∙ fewest _ _ few least) c.text.ensures
