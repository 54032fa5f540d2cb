-- The steps of one state by one action stand together in the list: where they begin, and what a modality asks of them. The contracts of the code that
-- looks at steps cite these.
use Rattle.std.specs.Prelude.{ℕ, ◌+◌, ◌*◌, ◌-◌, ◌≤◌, Bool, List, ◌≡◌, leb, length, get_or}
use Rattle.flc.specs.Sets.{both, for_some, first, has}
use Rattle.flc.specs.Order.{signed}
use Rattle.case_model.specs.Kinds.{Triple}
use Rattle.case_model.specs.Case.{Case, at}

-- a step's state and action as one number
abbrev pub key : List Triple → ℕ → ℕ
key l i = 8 * (at l i).0 + (at l i).1

-- the first place whose number is at least k; where there is none, the end
unfoldable pub group_at : List Triple → ℕ → ℕ
group_at l k = first (λ i. leb k (key l i)) 0 (length l)

-- t has these places, for the steps of each state by each action
abbrev pub Indexed : Case → List ℕ → Type 0
Indexed c t = (k : ℕ) → k ≤ 8 * length c.labels → get_or t k 0 ≡ group_at c.steps k

-- some step from place `from` up to `to` leads into x; with the flag false: out of x
unfoldable pub hits : List Triple → ℕ → Bool → ℕ → ℕ → Bool
hits l x d from to = for_some (to - from) (λ i. signed d (has x (at l (from + i)).2))

-- so of some of the first k actions, those of the group g, from state s
unfoldable pub hits_by : List Triple → ℕ → Bool → ℕ → ℕ → ℕ → Bool
hits_by l x d g s k = for_some k (λ a. both (has g a) (hits l x d (group_at l (8 * s + a)) (group_at l (8 * s + a + 1))))
