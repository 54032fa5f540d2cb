-- What classes replies of an accepted case, by the room; and the answer from the rows of alike states.
-- Row 13 alone is left.
use mathlib.Core.Bool.{Bool}
use mathlib.Core.List.{List, ◌++◌}
use mathlib.Core.Path.{◌≡◌, refl, sym, ap, ◌∙◌}
use Prim.Native.Nat.{ℕ, zero, suc, ◌+◌, ◌≤◌, ◌<◌}
use native.Mathlib.Omega.{arith}
use borrow.Author.Tests.{le-leb, lt-leb}
use lib.Dec.{leb}
use lib.ListN.{length, drop}
use Rattle.flc.specs.Sets.{first}
use Rattle.flc.specs.Bisimulation.{bisimilar}
use Rattle.case_model.specs.Limits.{standard}
use Rattle.case_model.specs.Areas.{Laid}
use Rattle.case_model.specs.Bytes.{list_of}
use Rattle.case_model.specs.Case.{Case, read}
use Rattle.case_model.specs.Rows.{unless}
use Rattle.case_model.specs.Replies.{Counts, Accepted, answers, refuses, replied, row13, counted, written}
use Rattle.case_model.specs.Merging.{lowest_alike, classes, classing}
use Rattle.case_model.proofs.Lists.{length-list_of, list_of_ext}
use Rattle.case_model.proofs.Laying.{laid_whole}
use Rattle.case_model.proofs.Replying.{own_rows}
use Rattle.bisimilarity.specs.Graphs.{table_of, Drawn}
use Rattle.bisimilarity.specs.Relations.{related, Rows}
use Rattle.bisimilarity.specs.declared.graph.Graph.{Graph}
use Rattle.bisimilarity.proofs.Refining.{rows_alike}

-- ---- a search
-- only the tests of the numbers that it may pass matter
first_ext : (p q : ℕ → Bool) (i k : ℕ) → ((t : ℕ) → i ≤ t → t < i + k → p t ≡ q t) → first p i k ≡ first q i k
unfolding first
first_ext p q i zero h = refl
first_ext p q i (suc k) h = rw (h i (omega arith) (omega arith), first_ext p q (suc i) k (λ t a b. h t (omega arith) (omega arith)))

-- ---- the rows
-- the lowest of each row
lowest-alike : {c : Case} {g : Graph} {rows : List ℕ} → Drawn c g → Rows g.states rows (bisimilar (table_of g))
    → list_of (length c.labels) (λ s. first (related rows s) 0 s) ≡ classes c
unfolding lowest_alike
lowest-alike {c} d r = list_of_ext (length c.labels) _ _ (λ s i. first_ext _ _ 0 s (λ t _ j. rows_alike d r s t i (omega arith)))

-- ---- what classes replies
-- an accepted case of n states
module _ (f out : List ℕ) {k : Counts} (ok : Accepted standard f k) {n : ℕ} (states : n ≡ k.states) where
  long : length (classes (read f)) ≡ n
  long = length-list_of (length (read f).labels) (lowest_alike (read f)) ∙ sym (states ∙ ok.states)

  -- row 13 alone is left
  by_room : classing f (length out) ≡ replied (unless (leb n (length out)) 13 0) (classes (read f))
  unfolding classing
  by_room =
      own_rows standard f (λ c. row13 (classes c) (length out)) classes ok.rows
      ∙ ap (λ m. replied (unless (leb m (length out)) 13 0) (classes (read f))) long

  pub classing_short : length out < n → (refuses 13 0 ≡ counted (classing f (length out))) × (out ≡ written (classing f (length out)) out)
  classing_short h =
      let e : classing f (length out) ≡ refuses 13 0 = by_room ∙ rw (lt-leb n (length out) h) in
      (rw e, rw e)

  -- whose classes are written
  pub classing_whole : {g : Graph} {rows v : List ℕ} → Drawn (read f) g → Rows g.states rows (bisimilar (table_of g)) → n ≤ length out
      → Laid out v 0 n (list_of n (λ s. first (related rows s) 0 s)) → (answers n ≡ counted (classing f (length out))) × (v ≡ written (classing f (length out)) out)
  classing_whole {g} {rows} {v} d r fits w =
      let h = length-list_of n (λ s. first (related rows s) 0 s) in
      let front : v ≡ list_of n (λ s. first (related rows s) 0 s) ++ drop n out = rw h at (laid_whole w fits) in
      let q : n ≡ length (read f).labels = omega (arith, states, ok.states) in
      let e : classing f (length out) ≡ answers (classes (read f)) = by_room ∙ rw (le-leb n (length out) fits) in
      (rw (e, long), rw (e, ← lowest-alike d r, length-list_of (length (read f).labels) _) (rw q at front))
