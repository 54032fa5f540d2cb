-- `areas::advance` meets its contract: after i turns the first i entries are the source's, and they were it already just if nothing has changed.
use Rattle.std.proofs.Common.{◌≡◌, ◌↔◌, false, ℕ, ◌≤◌, length, take, get_or}
use Rattle.areas.specs.Runs.{Same}
use Rattle.areas.proofs.advance.Given as goal

abbrev pub invariant-loop-i : goal.invariant-loop-i
invariant-loop-i g l =
    (take l.i l.target ≡ take l.i l.source) × ((k : ℕ) (d : _) → l.i ≤ k → get_or l.target k d ≡ get_or l.fn.target k d)
    × (length l.target ≡ length l.fn.target) × ((l.changed ≡ false) ↔ Same g.T.PartialEq.eq l.fn.target l.source l.i)
