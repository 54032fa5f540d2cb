-- Small instances of what demands 2 and 3 are made of: rounds, the promise of a call, the file that is handed on, the book's numbers.
-- By computation: a slip in one of these definitions makes an instance false.
use Prim.Native.Nat.{ℕ, zero, suc, ◌<◌}
use mathlib.Core.Bool.{true}
use mathlib.Core.List.{[], ◌∷◌}
use mathlib.Core.Path.{◌≡◌, refl, ap}
use native.Mathlib.Omega.{arith}
use lib.Dec.{T}
use lib.ListN.{replicate}
use Rattle.flc.specs.Sets.{both, either, implies, for_all, for_some, first, has, set_of}
use Rattle.flc.specs.Functions.{Fun, agree, approximant, for_all_fun, for_some_fun}
use Rattle.flc.specs.Formula.{free}
use Rattle.flc.specs.Nodes.{lower, formula_at}
use Rattle.flc.specs.Vocabulary.{vocabulary, reduct}
use Rattle.flc.specs.Bisimulation.{met, matching, bisimilar, alike}
use Rattle.case_model.specs.Bytes.{list_of, byte_at, padding, chained, pairs_hold, section, packed}
use Rattle.case_model.specs.Case.{write, listed, table, node_at, rule}
use Rattle.case_model.specs.Kinds.{kinds, kind_at}
use Rattle.case_model.specs.Rows.{lowest, root_closed, refusals}
use Rattle.case_model.specs.Replies.{replying, answers, refuses}
use Rattle.case_model.specs.Looking.{looked}
use Rattle.case_model.specs.Decision.{FirstStill}
use Rattle.case_model.specs.Merging.{moved, moved_steps, selected, in_order, is_in, merge, merging}
use Rattle.case_model.specs.Rewriting.{change, rewrite, rewriting}
use Rattle.case_model.specs.Book.{Edit, begun, book}
use Rattle.case_model.specs.Run.{Promised, handed}
use Rattle.case_model.proofs.Examples.{case_of, F}

-- ---- rounds
-- on one state, the body of μZ.τ or Z;tt: after nothing anywhere comes the set given, then the one state everywhere
abbrev body : Fun → Fun
body f x = set_of 1 (λ s. either (has x s) (has (f 1) s))

-- so that as many rounds as n × 2^n are needed
two_rounds : FirstStill true 1 body 2
unfolding agree approximant for_all both either has set_of
two_rounds = record { still = tt; first = before; most = omega arith }
  where
    before : (j : ℕ) → j < 2 → T (agree 1 (approximant true 1 body j) (approximant true 1 body (suc j))) → ⊥
    before zero h t = t
    before (suc zero) h t = t
    before (suc (suc j)) h t = omega arith

-- ---- calls
-- an accepted call hands on what it wrote, a refused one the file that it got
hands : (handed (1 ∷ []) (answers 2) (7 ∷ 8 ∷ 9 ∷ []) ≡ 7 ∷ 8 ∷ []) × (handed (1 ∷ []) (refuses 10 0) (7 ∷ []) ≡ 1 ∷ [])
hands = (refl, refl)

-- a call that tells the right count, and leaves its output area as it was, does not keep its promise
idle : Promised F (record { asked = Edit.rewrites 9 8; before = replicate 55 0; after = replicate 55 0; told = answers 55 }) → ⊥
unfolding rewriting replying change rewrite write packed refusals pairs_hold chained padding section
    list_of lowest first for_all for_some both either root_closed rule formula_at lower node_at kind_at kinds free
idle P =
    let same : ◌≡◌ {A = ℕ} 0 16 = ap (λ l. byte_at l 0) P.leaves in
    omega arith

-- ---- the book
-- after a merge of 0 and 1 of three alike states, 0 stands for both, and 1 for state 2
stands :
    let after = book (begun (case_of (0 ∷ 0 ∷ 0 ∷ []) [] ((5, 0, 0) ∷ []) 0)) (Edit.merges 1 0 99 ∷ []) in
    (after.standing 0 ≡ 0) × (after.standing 1 ≡ 0) × (after.standing 2 ≡ 1)
unfolding book merging replying merge moved moved_steps selected in_order is_in
    alike looked vocabulary reduct bisimilar matching met for_some_fun for_all_fun implies has set_of table listed
    write packed refusals pairs_hold chained padding section
    list_of lowest first for_all for_some both either root_closed rule formula_at lower node_at kind_at kinds free
stands = (refl, refl, refl)
