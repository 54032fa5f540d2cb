-- Start states after a merge and the word on all of them, computed from the definitions; and that a kept verdict tells cases apart by it.
-- By computation: a slip in a definition makes one of these equations false.
use Prim.Native.Nat.{ℕ, ◌-◌}
use mathlib.Core.Bool.{true, false, false≢true}
use mathlib.Core.List.{List, [], ◌∷◌}
use mathlib.Core.Path.{◌≡◌, refl, sym}
use native.Mathlib.Omega.{arith}
use Rattle.flc.specs.Sets.{both, either, for_all, for_some, first, has, set_of}
use Rattle.flc.specs.Formula.{free, mean_atom, mean}
use Rattle.flc.specs.Nodes.{lower, formula_at}
use Rattle.case_model.specs.Bytes.{list_of, padding, chained, pairs_hold, section, packed}
use Rattle.case_model.specs.Case.{write, table, node_at, rule}
use Rattle.case_model.specs.Kinds.{kinds, kind_at}
use Rattle.case_model.specs.Rows.{lowest, root_closed, refusals}
use Rattle.case_model.specs.Replies.{replying}
use Rattle.case_model.specs.Judging.{verdict, judging}
use Rattle.case_model.specs.Merging.{moved, selected, is_in, merge}
use Rattle.case_model.specs.Run.{holds, every_start, starts_hold, VerdictKept}

-- where 0 and 2 of three states are merged: a repeat falls together, and the order is restored
abbrev merged : List ℕ → List ℕ
merged at = (merge (record { labels = 0 ∷ 1 ∷ 0 ∷ []; steps = []; nodes = (5, 0, 0) ∷ []; root = 0; starts = at }) 0 2).starts

merges :
    (merged (0 ∷ 2 ∷ []) ≡ 0 ∷ [])
    × (merged (1 ∷ 2 ∷ []) ≡ 0 ∷ 1 ∷ [])
    × (merged (2 ∷ []) ≡ 0 ∷ [])
    × (merged [] ≡ [])
unfolding merge moved selected is_in either
merges = (refl, refl, refl, refl)

-- the rule p0 on two states, of which 0 has the proposition and 1 has not
abbrev file_of : List ℕ → List ℕ
file_of at = write (record { labels = 1 ∷ 0 ∷ []; steps = []; nodes = (2, 0, 0) ∷ []; root = 0; starts = at })

words :
    (starts_hold (file_of (0 ∷ [])) 8 ≡ true)
    × (starts_hold (file_of (1 ∷ [])) 8 ≡ false)
    × (starts_hold (file_of (0 ∷ 1 ∷ [])) 8 ≡ false)
    × (starts_hold (file_of []) 8 ≡ true)
unfolding starts_hold every_start holds judging replying verdict mean_atom mean has set_of table write packed refusals pairs_hold chained padding section
    list_of lowest first for_all for_some both either root_closed rule formula_at lower node_at kind_at kinds free
words = (refl, refl, refl, refl)

-- a verdict is not kept from a case whose start states hold to one where they do not, though each state holds in both or in neither ..
apart : (standing : ℕ → ℕ) → VerdictKept (file_of (0 ∷ [])) (file_of (1 ∷ [])) standing → ⊥
unfolding starts_hold every_start holds judging replying verdict mean_atom mean has set_of table write packed refusals pairs_hold chained padding section
    list_of lowest first for_all for_some both either root_closed rule formula_at lower node_at kind_at kinds free
apart standing K =
    let same : true ≡ false = K.starts 8 8 refl refl in
    false≢true (sym same)

-- .. nor if 0, which holds, and 1, which does not, stand for each other, though the word on start states is the same
exchanged : VerdictKept (file_of []) (file_of []) (λ s. 1 - s) → ⊥
unfolding holds judging replying verdict mean_atom mean has set_of table write packed refusals pairs_hold chained padding section
    list_of lowest first for_all for_some both either root_closed rule formula_at lower node_at kind_at kinds free
exchanged K =
    let same : true ≡ false = K.states 8 8 refl refl 0 (omega arith) in
    false≢true (sym same)
