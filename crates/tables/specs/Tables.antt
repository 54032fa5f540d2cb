-- Tables in the work area, as the contracts of the functions on them say it: a table has one word for each set of states.
use Rattle.std.specs.Prelude.{ℕ, ◌+◌, ◌≤◌, ◌<◌, Bool, cond, List, length}
use Rattle.std.specs.Int.Bits.{bit_or, bit_and}
use Rattle.flc.specs.Functions.{Fun}
use Rattle.flc.specs.Sets.{set_of}
use Rattle.flc.specs.Formula.{Atom, Op, or, and, chop, steps_by, mean_atom}
use Rattle.case_model.specs.Areas.{Filled, from}
use Rattle.case_plan.specs.Plans.{Plan, table_of}

-- two tables under an operator
abbrev pub combined : Op → Fun → Fun → Fun
combined or f g x = bit_or (f x) (g x)
combined and f g x = bit_and (f x) (g x)
combined chop f g x = f (g x)

-- the states with a step to t by an action of the group g
abbrev pub sources_by : Plan → ℕ → ℕ → ℕ
sources_by p g t = set_of p.states (λ s. steps_by (table_of p) g s t)

-- the set whose entry is filled first in the table of a modality: the empty one for ⟨g⟩ and that of all states for [g], each of which is its own value
abbrev pub edge : Bool → ℕ → ℕ
edge some all = cond some 0 all

-- two tables of w below the one from `base` on; the second has entries of sets
pub record Beneath (w : List ℕ) (size left right base : ℕ) : Type 0 where
  pub first : left + size ≤ base
  pub second : right + size ≤ base
  pub room : base + size ≤ length w
  pub sets : (x : ℕ) → x < size → from w right x < size

-- v is w with the table of an atom from `base` on
abbrev pub AtomFilled : Plan → List ℕ → List ℕ → ℕ → Atom → Type 0
AtomFilled p w v base x = Filled w v base p.size (mean_atom (table_of p) x)

abbrev pub OperatorFilled : List ℕ → List ℕ → ℕ → ℕ → ℕ → ℕ → Op → Type 0
OperatorFilled w v size left right base o = Filled w v base size (combined o (from w left) (from w right))
