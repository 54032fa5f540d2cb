-- `judge_case::page::verdict_page` meets its contract: after s turns the page shows the two counts and the lines of the states below s;
-- the word on the start states follows.
use mathlib.Core.Path.{◌≡◌, ap}
use Prim.Native.Nat.{ℕ, ◌≤◌}
use native.Mathlib.Omega.{arith}
use Rattle.judge_case.specs.declared.page.Page.{Page}
use Rattle.judge_case.specs.Printed.{states, rounds, line, lines, verdict_lines, Grew, Blank}
use Rattle.case_model.proofs.Laying.{laid_after, laid_as, laid_none}
use Rattle.judge_case.proofs.Texts.{line_short, answer_short, state_short, one_state, shows}
use Rattle.judge_case.proofs.page.verdict_page.Goals as goal

-- the two counts are lines of at most 28 bytes
counts_short : (m r : ℕ) {p q t : Page} → Blank p → Grew p q (line states m) → Grew q t (line rounds r) → t.length ≤ 56
counts_short m r b f g =
    let first = line_short states m in
    let second = line_short rounds r in
    omega (arith, b.none, f.ends, g.ends, first, second)

pub line-page-requires : goal.line-page-requires
line-page-requires c =
    let first = line_short states c.args.states in
    omega (arith, c.new.ensures.none, c.line.ensures.ends, first)

pub loop-s-init : goal.loop-s-init
unfolding lines
loop-s-init c = (laid_none _ _, omega arith, omega arith)

pub state-page-requires : goal.state-page-requires
state-page-requires c =
    let short = counts_short c.args.states c.args.verdict.rounds c.new.ensures c.line.ensures c.line-page.ensures in
    omega (arith, c.requires, short, c.loop-s.invariant.1, c.loop-s-test.true)

pub loop-s-preserved : goal.loop-s-preserved
loop-s-preserved c =
    let (shown, long, below) = c.loop-s.invariant in
    let v = c.args.verdict in
    let s = c.loop-s.s in
    let grown = c.state-page.ensures in (
      one_state s v.set c.holds.ensures shown grown,
      omega (arith, grown.ends, state_short s c.holds.result),
      omega arith,
    )

-- the lines of all states are at most 25 bytes each
pub text-requires : goal.text-requires
text-requires c =
    let short = counts_short c.args.states c.args.verdict.rounds c.new.ensures c.line.ensures c.line-page.ensures in
    omega (arith, c.requires, short, c.loop-s.invariant.1, c.loop-s.invariant.2)

pub yes_or_no-requires : goal.yes_or_no-requires
yes_or_no-requires c =
    let short = counts_short c.args.states c.args.verdict.rounds c.new.ensures c.line.ensures c.line-page.ensures in
    omega (arith, c.requires, short, c.loop-s.invariant.1, c.loop-s.invariant.2, c.text.ensures.ends)

pub returns : goal.returns
unfolding verdict_lines
returns c =
    let (shown, long, below) = c.loop-s.invariant in
    let a = c.args in
    let short = counts_short a.states a.verdict.rounds c.new.ensures c.line.ensures c.line-page.ensures in
    let all : c.loop-s.s ≡ a.states = omega (arith, c.loop-s-test.false) in
    let told = laid_as (ap (λ s. lines s a.verdict.set) all) shown in
    let word = laid_after c.text.ensures c.yes_or_no.ensures in
    shows c.new.ensures
    (laid_after c.line.ensures (laid_after c.line-page.ensures (laid_after told word)))
    (omega (arith, c.requires, short, long, below, c.text.ensures.ends, c.yes_or_no.ensures.ends, answer_short a.starts))
