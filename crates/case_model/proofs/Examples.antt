-- Examples of refusals 1 to 8, and case F's bytes, computed from the definitions.
-- By computation: a slip in a row, or two rows exchanged, makes one of these equations false.
use Prim.Native.Nat.{ℕ}
use mathlib.Core.Bool.{true, false}
use mathlib.Core.List.{List, [], ◌∷◌, ◌++◌}
use mathlib.Core.Path.{◌≡◌, refl}
use lib.ListN.{replicate, set}
use Rattle.flc.specs.Sets.{both, either, for_all, for_some, first}
use Rattle.flc.specs.Formula.{atom, modal, free}
use Rattle.flc.specs.Nodes.{leaf, lower, formula_at}
use Rattle.case_model.specs.Bytes.{list_of, padding, chained, pairs_hold, section, packed}
use Rattle.case_model.specs.Case.{flat, write, node_at, rule}
use Rattle.case_model.specs.Kinds.{Triple, kinds, kind_at, node_of, node_holds}
use Rattle.case_model.specs.Limits.{standard}
use Rattle.case_model.specs.Rows.{lowest, root_closed, refusals}
use Rattle.case_model.specs.Replies.{answers, refuses, replying, accepting, vetting, opening}

-- the file of a case, with start states and without
abbrev pub starting_at : List ℕ → List ℕ → List Triple → List Triple → ℕ → List ℕ
starting_at at l s n r = write (record { labels = l; steps = s; nodes = n; root = r; starts = at })

abbrev pub case_of : List ℕ → List Triple → List Triple → ℕ → List ℕ
case_of = starting_at []

-- case F
abbrev labels : List ℕ
labels = 0 ∷ 0 ∷ []

abbrev steps : List Triple
steps = (0, 0, 1) ∷ (1, 1, 1) ∷ []

abbrev pub nodes : List Triple
nodes =
    (4, 0, 0) ∷ (4, 1, 0) ∷ (10, 0, 1) ∷ (10, 2, 0) ∷ (12, 1, 3) ∷ (6, 0, 0) ∷ (10, 5, 4) ∷ (6, 1, 0) ∷ (8, 7, 6) ∷ (11, 0, 8) ∷ []

abbrev pub F : List ℕ
F = case_of labels steps nodes 9

abbrev seventeen : List ℕ
seventeen = starting_at (16 ∷ []) (replicate 17 0) ((16, 7, 16) ∷ []) ((5, 0, 0) ∷ []) 0

-- the bytes of case F
bytes : F ≡
    16 ∷ 0 ∷ 2 ∷ 0 ∷ 18 ∷ 0 ∷ 6 ∷ 0 ∷ 24 ∷ 0 ∷ 31 ∷ 0 ∷ 55 ∷ 0 ∷ 0 ∷ 0
    ∷ 0 ∷ 0
    ∷ 0 ∷ 0 ∷ 1 ∷ 1 ∷ 1 ∷ 1
    ∷ 4 ∷ 0 ∷ 0 ∷ 4 ∷ 1 ∷ 0 ∷ 10 ∷ 0 ∷ 1 ∷ 10 ∷ 2 ∷ 0 ∷ 12 ∷ 1 ∷ 3 ∷ 6 ∷ 0 ∷ 0 ∷ 10 ∷ 5 ∷ 4 ∷ 6 ∷ 1 ∷ 0 ∷ 8 ∷ 7 ∷ 6 ∷ 11 ∷ 0 ∷ 8
    ∷ 9 ∷ []
unfolding write packed
bytes = refl

-- case F's rule section, its labels, and steps of any bytes
abbrev with_steps : List ℕ → List ℕ
with_steps s = packed (labels ∷ s ∷ (flat nodes ++ (9 ∷ [])) ∷ [] ∷ [])

rows :
    (vetting F 0 ≡ answers (record { states = 2; nodes = 10 }))
    × (vetting [] 0 ≡ refuses 1 0)
    × (vetting (case_of (replicate 17 0) [] nodes 9) 0 ≡ refuses 2 0)
    × (vetting (case_of labels ((0, 0, 2) ∷ (1, 1, 1) ∷ []) nodes 9) 0 ≡ refuses 3 0)
    × (vetting (with_steps (0 ∷ 0 ∷ 1 ∷ 1 ∷ 1 ∷ 1 ∷ 0 ∷ [])) 0 ≡ refuses 3 0)
    × (vetting (case_of labels ((1, 1, 1) ∷ (0, 0, 1) ∷ []) nodes 9) 0 ≡ refuses 3 1)
    × (vetting (case_of labels ((0, 0, 1) ∷ (0, 0, 1) ∷ []) nodes 9) 0 ≡ refuses 3 1)
    × (vetting (case_of labels steps nodes 10) 0 ≡ refuses 4 0)
    × (vetting (case_of labels steps (set nodes 2 (10, 0, 2)) 9) 0 ≡ refuses 5 2)
    × (vetting (case_of labels steps (set nodes 4 (12, 0, 3)) 9) 0 ≡ refuses 6 9)
    × (vetting (case_of labels steps (set nodes 7 (2, 8, 0)) 9) 0 ≡ refuses 5 7)
    × (vetting (case_of labels steps nodes 4) 0 ≡ refuses 7 0)
    × (vetting (case_of labels steps nodes 5) 0 ≡ answers (record { states = 2; nodes = 10 }))
    × (vetting F 4 ≡ refuses 8 0)
unfolding write packed vetting replying refusals pairs_hold chained padding section
    list_of lowest first for_all for_some both either root_closed rule formula_at lower node_at kind_at kinds free
rows = (refl, refl, refl, refl, refl, refl, refl, refl, refl, refl, refl, refl, refl, refl)

-- a case of 17 states, with a step and a start state at the last of them, in 41 bytes: within wide limits, within those of the entries, and where a byte
-- less is allowed
limits :
    (accepting (record { longest = 65535; states = 256 }) seventeen ≡ answers (record { states = 17; nodes = 1 }))
    × (accepting standard seventeen ≡ refuses 2 0)
    × (accepting (record { longest = 40; states = 17 }) seventeen ≡ refuses 1 0)
unfolding write packed accepting replying refusals pairs_hold chained padding section
    list_of lowest first for_all for_some both either root_closed rule formula_at lower node_at kind_at kinds free
limits = (refl, refl, refl)

-- the kinds that look at steps: action 7 is the group 128, and 129 is {0, 7}
modalities :
    (node_of (6, 7, 0) ≡ leaf (atom (modal true 128)))
    × (node_of (7, 7, 0) ≡ leaf (atom (modal false 128)))
    × (node_of (13, 129, 0) ≡ leaf (atom (modal true 129)))
    × (node_of (14, 129, 0) ≡ leaf (atom (modal false 129)))
unfolding kind_at kinds
modalities = (refl, refl, refl, refl)

-- a binder's variable is one of 16, and its body a lower node
binders : (node_holds 3 (11, 15, 2) ≡ true) × (node_holds 3 (11, 16, 2) ≡ false) × (node_holds 3 (12, 0, 3) ≡ false)
unfolding kind_at kinds
binders = (refl, refl, refl)

-- row 5, kinds 13 and 14: any group is right, the other operand is unused, and 15 is no kind. They bind no variable (0 is bound by node 9) and
-- name no node (node 0 is a variable, which would be free in the root 5)
groups :
    (vetting (case_of labels steps (set nodes 7 (13, 0, 0)) 9) 0 ≡ answers (record { states = 2; nodes = 10 }))
    × (vetting (case_of labels steps (set nodes 7 (14, 255, 0)) 9) 0 ≡ answers (record { states = 2; nodes = 10 }))
    × (vetting (case_of labels steps (set nodes 5 (14, 3, 0)) 5) 0 ≡ answers (record { states = 2; nodes = 10 }))
    × (vetting (case_of labels steps (set nodes 7 (13, 3, 1)) 9) 0 ≡ refuses 5 7)
    × (vetting (case_of labels steps (set nodes 7 (14, 3, 1)) 9) 0 ≡ refuses 5 7)
    × (vetting (case_of labels steps (set nodes 7 (15, 0, 0)) 9) 0 ≡ refuses 5 7)
unfolding write packed vetting replying refusals pairs_hold chained padding section
    list_of lowest first for_all for_some both either root_closed rule formula_at lower node_at kind_at kinds free
groups = (refl, refl, refl, refl, refl, refl)

-- row 1. A file of one state, no steps, the rule τ and no start state, by the offsets of its sections and the bytes behind the head
abbrev laid_out : ℕ → ℕ → ℕ → ℕ → List ℕ → List ℕ
laid_out o p q r l = o ∷ 0 ∷ 1 ∷ 0 ∷ p ∷ 0 ∷ 0 ∷ 0 ∷ q ∷ 0 ∷ 4 ∷ 0 ∷ r ∷ 0 ∷ 0 ∷ 0 ∷ l

-- with as much padding as there can be
abbrev widest : List ℕ
widest = laid_out 16 20 23 30 (7 ∷ 0 ∷ 0 ∷ 0 ∷ 0 ∷ 0 ∷ 0 ∷ 5 ∷ 0 ∷ 0 ∷ 0 ∷ 0 ∷ 0 ∷ 0 ∷ [])

-- padding between any two sections, an empty one too; and what is not padding: four bytes, a byte that is not 0, bytes before section 0 or after the last
-- section, a section that begins too early; and a head of three pairs
chains :
    (vetting (laid_out 16 17 17 21 (0 ∷ 5 ∷ 0 ∷ 0 ∷ 0 ∷ [])) 0 ≡ answers (record { states = 1; nodes = 1 }))
    × (vetting widest 0 ≡ answers (record { states = 1; nodes = 1 }))
    × (vetting (laid_out 16 17 21 25 (0 ∷ 0 ∷ 0 ∷ 0 ∷ 0 ∷ 5 ∷ 0 ∷ 0 ∷ 0 ∷ [])) 0 ≡ refuses 1 0)
    × (vetting (laid_out 16 17 20 24 (0 ∷ 0 ∷ 0 ∷ 1 ∷ 5 ∷ 0 ∷ 0 ∷ 0 ∷ [])) 0 ≡ refuses 1 0)
    × (vetting (laid_out 17 18 18 22 (0 ∷ 0 ∷ 5 ∷ 0 ∷ 0 ∷ 0 ∷ [])) 0 ≡ refuses 1 0)
    × (vetting (laid_out 16 17 17 21 (0 ∷ 5 ∷ 0 ∷ 0 ∷ 0 ∷ 0 ∷ [])) 0 ≡ refuses 1 0)
    × (vetting (laid_out 16 16 17 21 (0 ∷ 5 ∷ 0 ∷ 0 ∷ 0 ∷ [])) 0 ≡ refuses 1 0)
    × (vetting (12 ∷ 0 ∷ 1 ∷ 0 ∷ 13 ∷ 0 ∷ 0 ∷ 0 ∷ 13 ∷ 0 ∷ 4 ∷ 0 ∷ 0 ∷ 5 ∷ 0 ∷ 0 ∷ 0 ∷ []) 0 ≡ refuses 1 0)
unfolding vetting replying refusals pairs_hold chained padding section
    list_of lowest first for_all for_some both either root_closed rule formula_at lower node_at kind_at kinds free
chains = (refl, refl, refl, refl, refl, refl, refl, refl)

-- row 4, start states: states of the case, strictly rising; a list out of order is told before a node that is wrong
starts :
    (vetting (starting_at (0 ∷ 1 ∷ []) labels steps nodes 9) 0 ≡ answers (record { states = 2; nodes = 10 }))
    × (vetting (starting_at (2 ∷ []) labels steps nodes 9) 0 ≡ refuses 4 0)
    × (vetting (starting_at (1 ∷ 0 ∷ []) labels steps nodes 9) 0 ≡ refuses 4 0)
    × (vetting (starting_at (0 ∷ 1 ∷ 1 ∷ []) labels steps nodes 9) 0 ≡ refuses 4 0)
    × (vetting (starting_at (2 ∷ []) labels ((0, 8, 1) ∷ []) nodes 9) 0 ≡ refuses 3 0)
    × (vetting (starting_at (2 ∷ []) labels steps (set nodes 2 (10, 0, 2)) 9) 0 ≡ refuses 4 0)
unfolding write packed vetting replying refusals pairs_hold chained padding section
    list_of lowest first for_all for_some both either root_closed rule formula_at lower node_at kind_at kinds free
starts = (refl, refl, refl, refl, refl, refl)

-- where two rows are met, the lower number is told
rising :
    (vetting [] 4 ≡ refuses 1 0)
    × (vetting (case_of [] ((0, 0, 2) ∷ []) nodes 9) 0 ≡ refuses 2 0)
    × (vetting (case_of labels ((0, 8, 1) ∷ []) nodes 10) 0 ≡ refuses 3 0)
    × (vetting (case_of labels steps (set nodes 0 (15, 0, 0)) 10) 0 ≡ refuses 4 0)
    × (vetting (case_of labels steps (set (set nodes 4 (12, 0, 3)) 5 (6, 8, 0)) 9) 0 ≡ refuses 5 5)
    × (vetting (case_of labels steps (set nodes 4 (12, 0, 3)) 1) 0 ≡ refuses 6 9)
    × (vetting (case_of labels steps nodes 4) 4 ≡ refuses 7 0)
unfolding write packed vetting replying refusals pairs_hold chained padding section
    list_of lowest first for_all for_some both either root_closed rule formula_at lower node_at kind_at kinds free
rising = (refl, refl, refl, refl, refl, refl, refl)

-- an opened section is its bytes, without padding; a refusal opens nothing
parts :
    (opening F 1 ≡ 0 ∷ 0 ∷ 1 ∷ 1 ∷ 1 ∷ 1 ∷ [])
    × (opening widest 0 ≡ 7 ∷ [])
    × (opening widest 1 ≡ [])
    × (opening widest 2 ≡ 5 ∷ 0 ∷ 0 ∷ 0 ∷ [])
    × (opening (starting_at (0 ∷ 1 ∷ []) labels steps nodes 9) 3 ≡ 0 ∷ 1 ∷ [])
    × (opening F 4 ≡ [])
unfolding write packed vetting replying opening refusals pairs_hold chained padding section
    list_of lowest first for_all for_some both either root_closed rule formula_at lower node_at kind_at kinds free
parts = (refl, refl, refl, refl, refl, refl)
