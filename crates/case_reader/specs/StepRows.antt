-- A step relation between 16 states as 128 rows of masks: bit t of row 8s + a is the step (s, a, t). Turned round, bit s of row 8t + a is that step.
use Rattle.std.specs.Prelude.{ℕ, ◌+◌, ◌*◌, ◌%◌, ◌^◌, ◌<◌, Bool, true, false, ◌&&◌, cond, List, map, ◌≡◌, ltb, length, get_or, set}
use Rattle.std.specs.Int.Bits.{bit_or}
use Rattle.flc.specs.Sets.{has}
use Rattle.case_model.specs.Kinds.{Triple}
use Rattle.case_model.specs.Case.{listed}

unfoldable pub relation : List ℕ → ℕ → ℕ → ℕ → Bool
relation rows s a t = has (get_or rows (8 * s + a) 0) t

-- a step, with the flag from its end to its start; and the steps, each read so
abbrev pub turned_if : Bool → Triple → Triple
turned_if false x = x
turned_if true x = (x.2, x.1, x.0)

abbrev pub steps_read : Bool → List Triple → List Triple
steps_read false l = l
steps_read true l = map (turned_if true) l

-- the row of a step, and its bit, if it has a place
abbrev pub row_of : Triple → ℕ
row_of x = 8 * (x.0 % 16) + x.1 % 8

abbrev pub bit_of : Triple → ℕ
bit_of x = cond (ltb x.0 16 && ltb x.1 8 && ltb x.2 16) (2 ^ (x.2 % 16)) 0

-- the rows with one step more
unfoldable pub marked : List ℕ → Triple → List ℕ
marked rows x = set rows (row_of x) (bit_or (get_or rows (row_of x) 0) (bit_of x))

-- the rows hold just the steps listed, of those that have a place
pub record StepRows (l : List Triple) (rows : List ℕ) : Type 0 where
  pub long : length rows ≡ 128
  pub small : (i : ℕ) → get_or rows i 0 < 65536
  pub is : (s a t : ℕ) → s < 16 → a < 8 → t < 16 → relation rows s a t ≡ listed l s a t
