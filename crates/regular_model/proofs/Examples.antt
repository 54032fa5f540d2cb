-- Replies of the judge of large drives, and the sets of rules with binders, computed from the definitions.
-- By computation: a slip in the profile, in a row, or in where iterates begin and end, makes one of these equations false.
use Prim.Native.Nat.{ℕ}
use mathlib.Core.Bool.{Bool, true, false}
use mathlib.Core.List.{List, [], ◌∷◌, ◌++◌}
use mathlib.Core.Path.{◌≡◌, refl}
use lib.Dec.{eqb}
use lib.ListN.{replicate}
use Rattle.flc.specs.Sets.{both, either, implies, for_all, for_some, among, first, has, set_of}
use Rattle.flc.specs.Iterates.{iterate}
use Rattle.flc.specs.Formula.{Formula, atom, var, op, fix, prop, modal, or, chop, steps_by, mean_atom, mean, free}
use Rattle.flc.specs.Nodes.{lower, formula_at}
use Rattle.case_model.specs.Bytes.{list_of, padding, chained, pairs_hold, section, packed}
use Rattle.case_model.specs.Case.{Case, write, listed, table, node_at, rule}
use Rattle.case_model.specs.Kinds.{Triple, kinds, kind_at}
use Rattle.case_model.specs.Rows.{lowest, root_closed, refusals}
use Rattle.case_model.specs.Replies.{Reply, answers, refuses, replying}
use Rattle.case_model.proofs.Examples.{case_of}
use Rattle.regular_model.specs.Regular.{regular}
use Rattle.regular_model.specs.Profile.{modal_kind, suits}
use Rattle.regular_model.specs.SetBytes.{byte_of, set_bytes}
use Rattle.regular_model.specs.Judging.{answer, judging_regular}
use Rattle.regular_model.specs.Values.{begin, given, value, no_sets}
use Rattle.regular_model.specs.StepGroups.{group_at, hits, hits_by}

-- ---- the profile, clause 12.2, on a state without steps: its last node is the root, with areas of any size
abbrev ruled : List Triple → ℕ → Reply (List ℕ)
ruled nodes root = judging_regular (case_of (0 ∷ []) [] nodes root) 256 32

-- the state is in, or is not
abbrev one : List ℕ
one = 1 ∷ replicate 31 0

abbrev none : List ℕ
none = replicate 32 0

profile :
    (ruled ((0, 0, 0) ∷ []) 0 ≡ answers one)
    -- τ; one that is not reached
    × (ruled ((5, 0, 0) ∷ []) 0 ≡ refuses 14 0)
    × (ruled ((5, 0, 0) ∷ (0, 0, 0) ∷ []) 1 ≡ answers one)
    -- a modality as the root; of a group; one that is not reached
    × (ruled ((6, 0, 0) ∷ []) 0 ≡ refuses 14 0)
    × (ruled ((14, 3, 0) ∷ []) 0 ≡ refuses 14 0)
    × (ruled ((7, 0, 0) ∷ (0, 0, 0) ∷ []) 1 ≡ answers one)
    -- the left of a chop: each of the four kinds; another
    × (ruled ((6, 0, 0) ∷ (0, 0, 0) ∷ (10, 0, 1) ∷ []) 2 ≡ answers none)
    × (ruled ((7, 0, 0) ∷ (1, 0, 0) ∷ (10, 0, 1) ∷ []) 2 ≡ answers one)
    × (ruled ((13, 3, 0) ∷ (0, 0, 0) ∷ (10, 0, 1) ∷ []) 2 ≡ answers none)
    × (ruled ((14, 3, 0) ∷ (1, 0, 0) ∷ (10, 0, 1) ∷ []) 2 ≡ answers one)
    × (ruled ((0, 0, 0) ∷ (10, 0, 0) ∷ []) 1 ≡ refuses 14 0)
    -- two chops share one; it is also the right of one, or of its own chop, or under an operator or a binder
    × (ruled ((7, 0, 0) ∷ (1, 0, 0) ∷ (10, 0, 1) ∷ (10, 0, 2) ∷ []) 3 ≡ answers one)
    × (ruled ((7, 0, 0) ∷ (10, 0, 0) ∷ []) 1 ≡ refuses 14 0)
    × (ruled ((7, 0, 0) ∷ (1, 0, 0) ∷ (10, 0, 1) ∷ (8, 2, 0) ∷ []) 3 ≡ refuses 14 0)
    × (ruled ((7, 0, 0) ∷ (1, 0, 0) ∷ (10, 0, 1) ∷ (9, 0, 2) ∷ []) 3 ≡ refuses 14 0)
    × (ruled ((7, 0, 0) ∷ (11, 0, 0) ∷ []) 1 ≡ refuses 14 0)
unfolding write packed judging_regular replying refusals pairs_hold chained padding section answer set_bytes byte_of regular
    list_of lowest first for_all for_some both either root_closed rule formula_at lower node_at kind_at kinds free
    mean mean_atom table has set_of among steps_by implies listed
profile = (refl, refl, refl, refl, refl, refl, refl, refl, refl, refl, refl, refl, refl, refl, refl, refl)

-- clause 12.3, of triples that name node 0, which is a modality, and node 1, which is none
abbrev zero_alone : ℕ → Bool
zero_alone i = eqb i 0

reached :
    (suits zero_alone (5, 0, 0) ≡ false)
    × (suits zero_alone (6, 0, 0) ≡ true)
    × (suits zero_alone (10, 0, 1) ≡ true)
    × (suits zero_alone (10, 1, 1) ≡ false)
    × (suits zero_alone (10, 0, 0) ≡ false)
    × (suits zero_alone (8, 1, 1) ≡ true)
    × (suits zero_alone (8, 0, 1) ≡ false)
    × (suits zero_alone (9, 1, 0) ≡ false)
    × (suits zero_alone (9, 0, 1) ≡ false)
    × (suits zero_alone (11, 0, 1) ≡ true)
    × (suits zero_alone (11, 1, 0) ≡ false)
    × (suits zero_alone (12, 1, 0) ≡ false)
unfolding suits both either implies
reached = (refl, refl, refl, refl, refl, refl, refl, refl, refl, refl, refl, refl)

modal_kinds :
    (modal_kind 5 ≡ false) × (modal_kind 6 ≡ true) × (modal_kind 7 ≡ true) × (modal_kind 8 ≡ false)
    × (modal_kind 12 ≡ false) × (modal_kind 13 ≡ true) × (modal_kind 14 ≡ true) × (modal_kind 15 ≡ false)
unfolding modal_kind either
modal_kinds = (refl, refl, refl, refl, refl, refl, refl, refl)

-- ---- the rows, clauses 12.1 and 12.5: 14 before 9 before 13, and areas as short as can be
abbrev top : List ℕ
top = case_of (0 ∷ []) [] ((0, 0, 0) ∷ []) 0

-- a rule of states that have proposition 0, of which only the last one has it, with a step at that state
abbrev last_of : ℕ → List ℕ
last_of n = case_of (replicate n 0 ++ (1 ∷ [])) ((n, 7, n) ∷ []) ((2, 0, 0) ∷ []) 0

rows :
    (judging_regular (case_of (0 ∷ []) [] ((5, 0, 0) ∷ []) 0) 0 0 ≡ refuses 14 0)
    × (judging_regular top 63 31 ≡ refuses 9 0)
    × (judging_regular top 64 31 ≡ refuses 13 0)
    × (judging_regular top 64 32 ≡ answers one)
    -- 17 states, 256 and 257
    × (judging_regular (last_of 16) 64 32 ≡ answers (0 ∷ 0 ∷ 1 ∷ replicate 29 0))
    × (judging_regular (last_of 255) 64 32 ≡ answers (replicate 31 0 ++ (128 ∷ [])))
    × (judging_regular (last_of 256) 64 32 ≡ refuses 2 0)
unfolding write packed judging_regular replying refusals pairs_hold chained padding section answer set_bytes byte_of regular
    list_of lowest first for_all for_some both either root_closed rule formula_at lower node_at kind_at kinds free
    mean mean_atom table has set_of
rows = (refl, refl, refl, refl, refl, refl, refl)

-- ---- binders, on a chain of three states by action 0, of which the last has proposition 0 and steps to itself by action 7
abbrev chain : Case
chain = record { labels = 0 ∷ 0 ∷ 1 ∷ []; steps = (0, 0, 1) ∷ (1, 0, 2) ∷ (2, 7, 2) ∷ []; nodes = []; root = 0; starts = [] }

-- proposition 0 after some steps of the group
abbrev sometime : ℕ → Formula
sometime g = fix true 0 (op or (atom (prop 0)) (op chop (atom (modal true g)) (var 0)))

-- steps of the group for ever
abbrev forever : ℕ → Formula
forever g = fix false 0 (op chop (atom (modal true g)) (var 0))

binders :
    (value (table chain) (sometime 1) no_sets ≡ 7)
    × (value (table chain) (sometime 128) no_sets ≡ 4)
    × (value (table chain) (forever 1) no_sets ≡ 0)
    × (value (table chain) (forever 128) no_sets ≡ 4)
    × (value (table chain) (forever 129) no_sets ≡ 7)
unfolding value iterate begin given no_sets mean_atom table has set_of among steps_by for_all for_some both either implies listed
binders = (refl, refl, refl, refl, refl)

-- ---- where the steps stand: those of state 1 by action 0, the last one, and the end
steps :
    (group_at chain.steps 8 ≡ 1)
    × (group_at chain.steps 9 ≡ 2)
    × (group_at chain.steps 23 ≡ 2)
    × (group_at chain.steps 24 ≡ 3)
    × (hits_by chain.steps 4 true 129 2 8 ≡ true)
    × (hits_by chain.steps 4 true 1 2 8 ≡ false)
    × (hits_by chain.steps 3 false 129 2 8 ≡ true)
unfolding group_at hits hits_by first for_some both either has
steps = (refl, refl, refl, refl, refl, refl, refl)
