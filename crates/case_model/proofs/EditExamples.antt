-- The examples of the table of refusals, rows 10 to 13, and small merges and rewrites, computed from the definitions.
-- By computation: a slip in a row, in a law or in the renumbering makes one of these equations false.
use Prim.Native.Nat.{ℕ, suc}
use mathlib.Core.List.{List, [], ◌∷◌, ◌++◌}
use mathlib.Core.Path.{◌≡◌, refl}
use lib.ListN.{replicate, set}
use Rattle.flc.specs.Sets.{both, either, implies, for_all, for_some, first, has, set_of}
use Rattle.flc.specs.Functions.{for_all_fun, for_some_fun}
use Rattle.flc.specs.Formula.{free}
use Rattle.flc.specs.Nodes.{lower, formula_at}
use Rattle.flc.specs.Vocabulary.{vocabulary, reduct}
use Rattle.flc.specs.Bisimulation.{met, matching, bisimilar, alike}
use Rattle.case_model.specs.Bytes.{list_of, padding, chained, pairs_hold, section, packed}
use Rattle.case_model.specs.Case.{Case, flat, write, listed, table, node_at, rule}
use Rattle.case_model.specs.Kinds.{Triple, kinds, kind_at}
use Rattle.case_model.specs.Rows.{lowest, root_closed, refusals}
use Rattle.case_model.specs.Replies.{replying, answers, refuses}
use Rattle.case_model.proofs.Examples.{starting_at, case_of, nodes, F}
use Rattle.case_model.specs.Looking.{looked}
use Rattle.case_model.specs.Merging.{moved, moved_steps, selected, in_order, is_in, merge, merging}
use Rattle.case_model.specs.Rewriting.{change, renamed, rewrite, rewriting}
use Rattle.case_model.specs.Book.{Edit, begun, book}
use Rattle.case_model.specs.Run.{replies}

-- one state without steps, and a rule
abbrev of : List Triple → ℕ → List ℕ
of n r = case_of (0 ∷ []) [] n r

-- rows 11 to 13, and law 9 where it is there
rewrites :
    (rewriting F 1 9 55 ≡ refuses 11 0)
    × (rewriting F 0 8 55 ≡ refuses 11 0)
    × (rewriting (of (replicate 61 (5, 0, 0) ++ ((10, 0, 0) ∷ (10, 61, 0) ∷ (5, 0, 0) ∷ [])) 62) 4 62 6385 ≡ refuses 12 0)
    × (rewriting F 9 8 54 ≡ refuses 13 0)
    × (rewriting F 9 8 55 ≡ answers (case_of (0 ∷ 0 ∷ []) ((0, 0, 1) ∷ (1, 1, 1) ∷ []) (set nodes 8 (8, 6, 7)) 9))
unfolding rewriting replying change rewrite write packed refusals pairs_hold chained padding section
    list_of lowest first for_all for_some both either root_closed rule formula_at lower node_at kind_at kinds free
rewrites = (refl, refl, refl, refl, refl)

-- the rule of ⟨0⟩, ⟨1⟩, τ, tt, the nodes given and the last of them as root; and what law k makes of it at node j, if it fits
abbrev ruled : List Triple → ℕ → Case
ruled l r = record { labels = 0 ∷ []; steps = []; nodes = (6, 0, 0) ∷ (6, 1, 0) ∷ (5, 0, 0) ∷ (0, 0, 0) ∷ l; root = r; starts = [] }

abbrev by : ℕ → ℕ → Case → Case
by k j c = rewrite c j (change c.nodes k j)

-- laws 1 to 9, a line each where it fits, with what names node j; the last lines have a shape that does not fit
laws :
    (by 1 4 (ruled ((10, 2, 0) ∷ (8, 4, 1) ∷ []) 5) ≡ ruled ((10, 2, 0) ∷ (8, 0, 1) ∷ []) 5)
    × (by 2 4 (ruled ((10, 0, 2) ∷ (8, 4, 1) ∷ []) 5) ≡ ruled ((10, 0, 2) ∷ (8, 0, 1) ∷ []) 5)
    × (by 3 4 (ruled ((10, 3, 0) ∷ (11, 4, 4) ∷ []) 4) ≡ ruled ((10, 3, 0) ∷ (11, 4, 3) ∷ []) 3)
    × (by 4 5 (ruled ((10, 0, 1) ∷ (10, 4, 2) ∷ (11, 5, 5) ∷ []) 6) ≡ ruled ((10, 0, 1) ∷ (10, 1, 2) ∷ (10, 0, 5) ∷ (11, 5, 6) ∷ []) 7)
    × (by 5 5 (ruled ((10, 1, 2) ∷ (10, 0, 4) ∷ []) 5) ≡ ruled ((10, 1, 2) ∷ (10, 0, 1) ∷ (10, 5, 2) ∷ []) 6)
    × (by 6 5 (ruled ((8, 0, 1) ∷ (10, 4, 2) ∷ []) 5) ≡ ruled ((8, 0, 1) ∷ (10, 0, 2) ∷ (10, 1, 2) ∷ (8, 5, 6) ∷ []) 7)
    × (by 7 5 (ruled ((9, 0, 1) ∷ (10, 4, 2) ∷ []) 5) ≡ ruled ((9, 0, 1) ∷ (10, 0, 2) ∷ (10, 1, 2) ∷ (9, 5, 6) ∷ []) 7)
    × (by 8 4 (ruled ((9, 0, 0) ∷ []) 4) ≡ ruled ((9, 0, 0) ∷ []) 0)
    × (by 9 4 (ruled ((9, 0, 1) ∷ []) 4) ≡ ruled ((9, 1, 0) ∷ []) 4)
    × (by 3 4 (ruled ((10, 2, 0) ∷ []) 4) ≡ ruled ((10, 2, 0) ∷ []) 4)
    × (by 6 5 (ruled ((8, 0, 1) ∷ (10, 2, 4) ∷ []) 5) ≡ ruled ((8, 0, 1) ∷ (10, 2, 4) ∷ []) 5)
    × (by 8 4 (ruled ((8, 0, 1) ∷ []) 4) ≡ ruled ((8, 0, 1) ∷ []) 4)
unfolding rewrite change kind_at kinds
laws = (refl, refl, refl, refl, refl, refl, refl, refl, refl, refl, refl, refl)

-- kinds 13 and 14 are carried as they are, before and behind the node that is rewritten and wherever numbers move; law 3 does not take them
rewrites-groups :
    (rewriting (of ((13, 3, 0) ∷ (14, 255, 0) ∷ (10, 0, 1) ∷ (10, 2, 0) ∷ (14, 3, 0) ∷ (8, 3, 4) ∷ []) 5) 4 3 99
    ≡ answers (of ((13, 3, 0) ∷ (14, 255, 0) ∷ (10, 0, 1) ∷ (10, 1, 0) ∷ (10, 0, 3) ∷ (14, 3, 0) ∷ (8, 4, 5) ∷ []) 6))
    × (renamed suc (13, 3, 0) ≡ (13, 3, 0))
    × (renamed suc (14, 3, 0) ≡ (14, 3, 0))
    × (rewriting (of ((13, 3, 0) ∷ (10, 0, 0) ∷ []) 1) 3 1 99 ≡ refuses 11 0)
unfolding rewriting replying change rewrite write packed refusals pairs_hold chained padding section
    list_of lowest first for_all for_some both either root_closed rule formula_at lower node_at kind_at kinds free
rewrites-groups = (refl, refl, refl, refl)

-- case F with each section at a multiple of four
abbrev aligned : List ℕ
aligned =
    16 ∷ 0 ∷ 2 ∷ 0 ∷ 20 ∷ 0 ∷ 6 ∷ 0 ∷ 28 ∷ 0 ∷ 31 ∷ 0 ∷ 60 ∷ 0 ∷ 0 ∷ 0
    ∷ 0 ∷ 0 ∷ 0 ∷ 0
    ∷ 0 ∷ 0 ∷ 1 ∷ 1 ∷ 1 ∷ 1 ∷ 0 ∷ 0
    ∷ (flat nodes ++ (9 ∷ 0 ∷ []))

-- an edit writes a packed file, and needs no room for padding; a refused one leaves the book's padded file as it is
packs :
    (rewriting aligned 9 8 54 ≡ refuses 13 0)
    × (rewriting aligned 9 8 55 ≡ answers (case_of (0 ∷ 0 ∷ []) ((0, 0, 1) ∷ (1, 1, 1) ∷ []) (set nodes 8 (8, 6, 7)) 9))
    × ((book (begun aligned) (Edit.rewrites 1 9 99 ∷ Edit.rewrites 9 8 54 ∷ [])).file ≡ aligned)
unfolding book rewriting replying change rewrite write packed refusals pairs_hold chained padding section
    list_of lowest first for_all for_some both either root_closed rule formula_at lower node_at kind_at kinds free
packs = (refl, refl, refl)

-- rows 8 and 10, and two states with the same loop
merges :
    (merging F 0 2 55 ≡ refuses 8 0)
    × (merging F 0 1 55 ≡ refuses 10 0)
    × (merging F 1 1 55 ≡ refuses 10 0)
    × (merging (starting_at (0 ∷ 1 ∷ []) (5 ∷ 5 ∷ []) ((0, 3, 1) ∷ (1, 3, 1) ∷ []) ((6, 3, 0) ∷ []) 0) 1 0 99
    ≡ answers (starting_at (0 ∷ []) (5 ∷ []) ((0, 3, 0) ∷ []) ((6, 3, 0) ∷ []) 0))
unfolding merging replying merge moved moved_steps selected in_order is_in
    alike looked vocabulary reduct bisimilar matching met for_some_fun for_all_fun implies has set_of table listed
    write packed refusals pairs_hold chained padding section
    list_of lowest first for_all for_some both either root_closed rule formula_at lower node_at kind_at kinds free
merges = (refl, refl, refl, refl)

-- two states, of which state 0 alone has proposition 7, with these steps, nodes and root
abbrev lamp : List Triple → List Triple → ℕ → List ℕ
lamp s n r = case_of (129 ∷ 1 ∷ []) s n r

-- alike as far as the rule looks: neither a proposition nor an action is compared that stands in no node, or only in one that the root does not reach. The
-- kept label is whole, and steps of every action are moved or gone. A proposition in a complement is compared, and each action of a group, the highest too
looks :
    (merging (lamp ((0, 7, 1) ∷ (1, 6, 1) ∷ []) ((2, 0, 0) ∷ (2, 7, 0) ∷ (14, 192, 0) ∷ []) 0) 0 1 99
    ≡ answers (case_of (129 ∷ []) ((0, 7, 0) ∷ []) ((2, 0, 0) ∷ (2, 7, 0) ∷ (14, 192, 0) ∷ []) 0))
    × (merging (lamp [] ((3, 7, 0) ∷ []) 0) 0 1 99 ≡ refuses 10 0)
    × (merging (lamp ((0, 7, 0) ∷ []) ((13, 129, 0) ∷ []) 0) 0 1 99 ≡ refuses 10 0)
unfolding merging replying merge moved moved_steps selected in_order is_in
    alike looked vocabulary reduct bisimilar matching met for_some_fun for_all_fun implies has set_of table listed
    write packed refusals pairs_hold chained padding section
    list_of lowest first for_all for_some both either root_closed rule formula_at lower node_at kind_at kinds free
looks = (refl, refl, refl)

-- each merge is judged by the file that it gets: law 3 makes of p0;¬p7 the rule p0, which does not look at proposition 7 any more
widens :
    replies (begun (lamp [] ((2, 0, 0) ∷ (3, 7, 0) ∷ (10, 0, 1) ∷ []) 2)) (Edit.merges 0 1 99 ∷ Edit.rewrites 3 2 99 ∷ Edit.merges 0 1 99 ∷ [])
    ≡ refuses 10 0 ∷ answers 28 ∷ answers 27 ∷ []
unfolding replies rewriting replying change rewrite merging merge moved moved_steps selected in_order is_in
    alike looked vocabulary reduct bisimilar matching met for_some_fun for_all_fun implies has table listed
    write packed refusals pairs_hold chained padding section
    list_of lowest first for_all for_some both either root_closed rule formula_at lower node_at kind_at kinds free
widens = refl
