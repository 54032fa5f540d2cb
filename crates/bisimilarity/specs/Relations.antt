-- Relations as rows of masks, and the two tests of refinement.
use Rattle.std.specs.Prelude.{ℕ, ◌<◌, Bool, List, ◌≡◌, eqb, get_or}
use Rattle.flc.specs.Sets.{both, implies, for_all, for_some, has, set_of}
use Rattle.flc.specs.Formula.{Table}
use Rattle.flc.specs.Bisimulation.{met}

-- t is in the row of s
unfoldable pub related : List ℕ → ℕ → ℕ → Bool
related rows s t = has (get_or rows s 0) t

-- the row of each state is the set of the states that R relates to it
pub record Rows (n : ℕ) (rows : List ℕ) (R : ℕ → ℕ → Bool) : Type 0 where
  pub row : (s : ℕ) → s < n → get_or rows s 0 ≡ set_of n (R s)

-- the first n rows are the same
abbrev pub same_rows : ℕ → List ℕ → List ℕ → Bool
same_rows n rows next = for_all n (λ s. eqb (get_or rows s 0) (get_or next s 0))

-- each state in p is related to one in q: `met` is this of the states after a step of s and of t, for every action
unfoldable pub meets : ℕ → (ℕ → ℕ → Bool) → (ℕ → Bool) → (ℕ → Bool) → Bool
meets n R p q = for_all n (λ s. implies (p s) (for_some n (λ t. both (q t) (R s t))))

-- a related pair, each of which meets the other's steps
unfoldable pub kept : Table → (ℕ → ℕ → Bool) → ℕ → ℕ → Bool
kept L R s t = both (R s t) (both (met L R s t) (met L R t s))

unfoldable pub same_label : Table → ℕ → ℕ → Bool
same_label L s t = eqb (L.label s) (L.label t)
