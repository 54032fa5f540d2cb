-- `areas::fill` meets its contract: after i turns the first i entries are what f gives.
use Rattle.std.proofs.Common.{◌≡◌, ℕ, ◌<◌, length, get_or}
use Rattle.areas.proofs.fill.Given as goal

abbrev pub invariant-loop-i : goal.invariant-loop-i
invariant-loop-i g l =
    (length l.target ≡ length l.fn.target) × ((k : ℕ) (d : _) → k < l.i → goal.F-post g l.f k (get_or l.target k d))
