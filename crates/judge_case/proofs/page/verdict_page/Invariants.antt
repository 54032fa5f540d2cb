-- `judge_case::page::verdict_page` meets its contract: after s turns the page shows the two counts and the lines of the states below s;
-- the word on the start states follows.
use Prim.Native.Nat.{◌+◌, ◌-◌, ◌*◌, ◌≤◌}
use Rattle.judge_case.specs.Printed.{lines, Grew}
use Rattle.judge_case.proofs.page.verdict_page.Given as goal

abbrev pub invariant-loop-s : goal.invariant-loop-s
invariant-loop-s l =
    Grew l.initial.page l.page (lines l.s l.verdict.set) × (l.page.length ≤ l.initial.page.length + 25 * l.s) × (l.s ≤ l.states)

abbrev pub decreases-loop-s : goal.decreases-loop-s
decreases-loop-s l = l.states - l.s
