-- Iterates of a map, and what those of a map on functions may begin with to rise to a fixed point: docs/SPECIFICATION.md, clause 2.10.
-- The flag: true for the least fixed point, to which they rise, false for the greatest, to which they fall. The contracts of the code that computes
-- approximants cite these; what the entries promise does not.
use Rattle.std.specs.Prelude.{Bool, true, false, ℕ, zero, suc}
use Rattle.flc.specs.Functions.{Fun, meet, join}
use Rattle.flc.specs.Order.{Below, Good}

-- the least for the flag true, the greatest for false
abbrev pub fixed : Bool → ℕ → (Fun → Fun) → Fun
fixed true n F = meet n F
fixed false n F = join n F

unfoldable pub iterate : {A : Type 0} → (A → A) → A → ℕ → A
iterate F x zero = x
iterate F x (suc k) = F (iterate F x k)

-- x is monotone, below its image, and below the fixed point, in the order of the flag
pub record Rising (d : Bool) (n : ℕ) (F : Fun → Fun) (x : Fun) : Type 0 where
  pub good : Good n x
  pub first : Below d n x (F x)
  pub low : Below d n x (fixed d n F)
