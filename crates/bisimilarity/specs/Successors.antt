-- The rows of successors that a graph holds: row 8s + a has the states after a step of s by action a.
use Rattle.std.specs.Prelude.{ℕ, ◌+◌, ◌*◌, ◌^◌, ◌<◌, List, get_or}
use Rattle.flc.specs.Formula.{actions}

-- no step leads to a number from n on
abbrev pub Within : ℕ → List ℕ → Type 0
Within n rows = (s a : ℕ) → a < actions → get_or rows (8 * s + a) 0 < 2 ^ n
