-- `judge_case::page::refusal_page` meets its contract: a text, a number and a line with the place follow one another on a blank page,
-- and a numeral has at most 20 digits, so that there is room for them.
use Prim.Native.Nat.{◌≤◌}
use native.Mathlib.Omega.{arith}
use Rattle.judge_case.specs.Printed.{space, line, refusal_line}
use Rattle.case_model.specs.Areas.{Laid}
use Rattle.case_model.proofs.Laying.{laid_after}
use Rattle.judge_case.proofs.Texts.{numeral_short, line_short, shows}
use Rattle.judge_case.proofs.page.refusal_page.Goals as goal

-- "refused " and the number have at most 28 bytes
number_short : (c : goal.After-line-arg-2-1) → c.number.result.length ≤ 28
number_short c =
    let few = numeral_short c.number-number.result in
    omega (arith, c.new.ensures.none, c.text.ensures.ends, c.number.ensures.ends, few)

pub line-requires : goal.line-requires
line-requires c = omega (arith, number_short c)

-- "refused " and the number have at most 28 bytes
number_short_2 : (c : goal.After-line) → c.number.result.length ≤ 28
number_short_2 c =
    let few = numeral_short c.number-number.result in
    omega (arith, c.new.ensures.none, c.text.ensures.ends, c.number.ensures.ends, few)

pub returns : goal.returns
unfolding refusal_line
returns c =
    let place = line_short space c.args.refusal.place in
    let before = c.number.result in
    let after = c.line.result in
    let last : Laid before.bytes after.bytes before.length after.length (line space c.args.refusal.place) = c.line.ensures in
    rw (← c.number-number.ensures)
    (shows c.new.ensures
    (laid_after c.text.ensures (laid_after c.number.ensures last))
    (omega (arith, number_short_2 c, c.line.ensures.ends, place)))
