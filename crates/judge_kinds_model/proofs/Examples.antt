-- Tables, exchanged files and replies, computed from the definitions.
-- By computation: a slip in which bytes are exchanged, or in what a byte stands for, makes one of these equations false.
use Prim.Native.Nat.{ℕ}
use mathlib.Core.Bool.{true, false}
use mathlib.Core.List.{List, [], ◌∷◌, ◌++◌}
use mathlib.Core.Path.{◌≡◌, refl}
use Rattle.flc.specs.Sets.{both, either, for_all, for_some, first, has, set_of}
use Rattle.flc.specs.Permutations.{sum_over, times, is_permutation}
use Rattle.flc.specs.Formula.{mean_atom, mean, free}
use Rattle.flc.specs.Nodes.{lower, formula_at, rounds_of, rounds_at}
use Rattle.case_model.specs.Bytes.{list_of, padding, chained, pairs_hold, section, packed}
use Rattle.case_model.specs.Case.{write, table, node_at, rule}
use Rattle.case_model.specs.Kinds.{Triple, kinds, kind_at}
use Rattle.case_model.specs.Rows.{lowest, root_closed, refusals}
use Rattle.case_model.specs.Replies.{Reply, answers, refuses, replying}
use Rattle.case_model.specs.Judging.{Verdict, verdict, judging}
use Rattle.case_model.proofs.Examples.{case_of}
use Rattle.judge_kinds_model.specs.KindTables.{is_table, stands_for, identity, inverse}
use Rattle.judge_kinds_model.specs.Exchange.{is_kind, exchanged_byte, exchanged}
use Rattle.judge_kinds_model.specs.Judging.{judging_kinds}

-- ---- tables: byte 0 stands for kind 1, byte 1 for kind 2, byte 2 for kind 0, and each other for its own
abbrev rest : List ℕ
rest = 3 ∷ 4 ∷ 5 ∷ 6 ∷ 7 ∷ 8 ∷ 9 ∷ 10 ∷ 11 ∷ 12 ∷ 13 ∷ 14 ∷ []

abbrev turned : List ℕ
turned = 1 ∷ 2 ∷ 0 ∷ rest

-- a number twice, a 15, an entry too few, one too many, none
tables :
    (is_table turned ≡ true)
    × (is_table identity ≡ true)
    × (is_table (1 ∷ 1 ∷ 0 ∷ rest) ≡ false)
    × (is_table (1 ∷ 15 ∷ 0 ∷ rest) ≡ false)
    × (is_table (1 ∷ 0 ∷ rest) ≡ false)
    × (is_table (turned ++ (15 ∷ [])) ≡ false)
    × (is_table [] ≡ false)
    × (inverse turned ≡ 2 ∷ 0 ∷ 1 ∷ rest)
unfolding kinds is_permutation times sum_over for_all both list_of inverse first
tables = (refl, refl, refl, refl, refl, refl, refl, refl)

bytes :
    (stands_for turned 0 ≡ 1)
    × (stands_for turned 1 ≡ 2)
    × (stands_for turned 2 ≡ 0)
    × (stands_for turned 14 ≡ 14)
    × (stands_for turned 15 ≡ 15)
    × (stands_for turned 255 ≡ 255)
unfolding stands_for first
bytes = (refl, refl, refl, refl, refl, refl)

-- ---- a file: one label, no step, three nodes and their root, one start state; two zero bytes before the rule and one behind it
abbrev padded : List ℕ → List ℕ
padded rule = 16 ∷ 0 ∷ 1 ∷ 0 ∷ 17 ∷ 0 ∷ 0 ∷ 0 ∷ 19 ∷ 0 ∷ 10 ∷ 0 ∷ 30 ∷ 0 ∷ 1 ∷ 0 ∷ 1 ∷ 0 ∷ 0 ∷ (rule ++ (0 ∷ 0 ∷ []))

-- and one whose head is no head: its rule section would begin in it
abbrev over_head : List ℕ
over_head = 16 ∷ 0 ∷ 1 ∷ 0 ∷ 17 ∷ 0 ∷ 0 ∷ 0 ∷ 9 ∷ 0 ∷ 4 ∷ 0 ∷ 13 ∷ 0 ∷ 4 ∷ 0 ∷ 1 ∷ []

exchanges :
    (exchanged turned (padded (2 ∷ 1 ∷ 0 ∷ 1 ∷ 0 ∷ 2 ∷ 15 ∷ 1 ∷ 1 ∷ 1 ∷ [])) ≡ padded (0 ∷ 1 ∷ 0 ∷ 2 ∷ 0 ∷ 2 ∷ 15 ∷ 1 ∷ 1 ∷ 1 ∷ []))
    -- a root alone, and no node
    × (exchanged turned (case_of (1 ∷ []) [] [] 0) ≡ case_of (1 ∷ []) [] [] 0)
    × (exchanged turned over_head ≡ over_head)
unfolding exchanged exchanged_byte is_kind stands_for pairs_hold chained padding section list_of for_all for_some both either write packed
exchanges = (refl, refl, refl)

-- ---- replies of a state with proposition 0, on the empty set with four words for each node
abbrev judged : List ℕ → List Triple → ℕ → Reply Verdict
judged t nodes words = judging_kinds t (case_of (1 ∷ []) [] nodes 0) 0 words

-- tt, ff and the proposition, in the numbers of the table
replies :
    (judged turned ((2, 0, 0) ∷ []) 4 ≡ answers (record { set = 1; rounds = 0 }))
    × (judged turned ((0, 0, 0) ∷ []) 4 ≡ answers (record { set = 0; rounds = 0 }))
    × (judged turned ((1, 0, 0) ∷ []) 4 ≡ answers (record { set = 1; rounds = 0 }))
    × (judged turned ((1, 8, 0) ∷ []) 4 ≡ refuses 5 0)
    × (judged turned ((2, 0, 0) ∷ (15, 0, 0) ∷ []) 8 ≡ refuses 5 1)
    × (judged turned ((2, 0, 0) ∷ []) 3 ≡ refuses 9 0)
    -- 15 comes before all
    × (judging_kinds turned [] 0 0 ≡ refuses 1 0)
    × (judging_kinds (1 ∷ 1 ∷ 0 ∷ rest) [] 0 0 ≡ refuses 15 0)
    × (judging_kinds turned over_head 0 0 ≡ refuses 1 0)
unfolding kinds is_permutation times sum_over judging_kinds exchanged exchanged_byte is_kind stands_for write packed judging replying refusals
    pairs_hold chained padding section list_of lowest first for_all for_some both either root_closed rule formula_at lower node_at kind_at free
    verdict mean mean_atom table has set_of rounds_at rounds_of
replies = (refl, refl, refl, refl, refl, refl, refl, refl, refl)
