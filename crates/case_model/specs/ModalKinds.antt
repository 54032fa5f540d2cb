-- The four kinds that look at steps: docs/SPECIFICATION.md, clauses 1.7, 2.5 and 2.6.
use Rattle.std.specs.Prelude.{ℕ, Bool, true, false}
use Rattle.flc.specs.Sets.{singleton}

-- a kind and its operand; whether some step is asked for or all; and of which group
pub data Modal : ℕ → ℕ → Bool → ℕ → Type 0 where
  some_by_action : (a : ℕ) → Modal 6 a true (singleton a)
  all_by_action : (a : ℕ) → Modal 7 a false (singleton a)
  some_by_group : (g : ℕ) → Modal 13 g true g
  all_by_group : (g : ℕ) → Modal 14 g false g
