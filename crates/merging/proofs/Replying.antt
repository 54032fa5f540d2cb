-- What merging replies of an accepted case, by the states given.
-- By the rows of the table of refusals, in rising number.
use mathlib.Core.Bool.{Bool, true, false, not, ◌&&◌}
use mathlib.Core.List.{List}
use mathlib.Core.Path.{◌≡◌, refl, sym, ◌∙◌}
use Prim.Native.Nat.{ℕ, ◌≤◌, ◌<◌, min, max}
use native.Mathlib.Omega.{arith}
use borrow.Author.Tests.{ltb-true}
use lib.Dec.{eqb, ltb}
use lib.ListN.{get_or}
use Rattle.flc.specs.Sets.{has}
use Rattle.flc.specs.Bisimulation.{bisimilar, alike}
use Rattle.case_model.specs.Case.{read, table}
use Rattle.case_model.specs.Looking.{looked}
use Rattle.case_model.specs.Rows.{Found, refused, ◌or_else◌, unless, row8}
use Rattle.case_model.specs.Limits.{most_states, standard}
use Rattle.case_model.specs.Replies.{Counts, Accepted, refuses, replied, row13}
use Rattle.case_model.specs.Merging.{row10, merged_file, merging}
use Rattle.case_model.proofs.Tests.{and_l, and_r}
use Rattle.case_model.proofs.Valid.{accepted_valid}
use Rattle.case_model.proofs.Replying.{own_rows}
use Rattle.bisimilarity.specs.Graphs.{table_of, Drawn}
use Rattle.bisimilarity.specs.Relations.{related, Rows}
use Rattle.bisimilarity.specs.declared.graph.Graph.{Graph}
use Rattle.bisimilarity.proofs.Refining.{rows_alike}
use Rattle.merged_file.specs.Merged.{fitting}
use Rattle.merged_steps.specs.declared.rows.Pair.{Pair}

-- ---- row 8
both_out : (a b : Bool) (r q : Found) → (a && b) ≡ false → unless a 8 0 or_else unless b 8 0 or_else r or_else q ≡ refused 8 0
both_out true true r q e = cc
both_out true false r q e = refl
both_out false b r q e = refl

-- ---- an accepted case with n states
module _ (f : List ℕ) (s t room : ℕ) {k : Counts} (ok : Accepted standard f k) {n : ℕ} (states : n ≡ k.states) where
  -- rows 8, 10 and 13 are left
  rows_left : merging f s t room
      ≡ replied (row8 s n or_else row8 t n or_else row10 (read f) s t or_else row13 (merged_file s t (read f)) room) (merged_file s t (read f))
  unfolding merging
  rows_left = rw (states, ok.states) (own_rows standard f _ _ ok.rows)

  pub merging_beyond : (ltb s n && ltb t n) ≡ false → merging f s t room ≡ refuses 8 0
  merging_beyond e = rw (rows_left, both_out (ltb s n) (ltb t n) _ _ e)

  module _ (i : (ltb s n && ltb t n) ≡ true) where
    pub inside : (s < n) × (t < n) × (n ≤ most_states)
    inside =
        (ltb-true s n (search and_l), ltb-true t n (search and_r), omega (arith, states, ok.states, (accepted_valid standard f ok.rows).table.few))

    -- what the row of s says of t
    module _ {g : Graph} {rows : List ℕ} (d : Drawn (read f) g) (r : Rows g.states rows (bisimilar (table_of g)))
        {b : Bool} (m : b ≡ has (get_or rows s 0) t) where
      alike_is : alike (looked (read f)) (table (read f)) s t ≡ b
      unfolding related
      alike_is =
          let (p, q, few) = inside in
          let e = states ∙ ok.states in
          sym (m ∙ rows_alike d r s t (omega arith) (omega arith))

      -- rows 10 and 13 are left
      by_row : merging f s t room ≡ replied (unless (not (eqb s t) && b) 10 0 or_else row13 (merged_file s t (read f)) room) (merged_file s t (read f))
      by_row = rows_left ∙ rw (and_l (ltb s n) (ltb t n) i, and_r (ltb s n) (ltb t n) i, alike_is)

      pub merging_unlike : (not (eqb s t) && b) ≡ false → merging f s t room ≡ refuses 10 0
      merging_unlike e = rw (by_row, e)

      pub merging-alike : (not (eqb s t) && b) ≡ true → {p : Pair} → p.kept ≡ min s t → p.removed ≡ max s t → merging f s t room ≡ fitting f p room
      unfolding fitting
      merging-alike e lower higher = rw (by_row, e, lower, higher)
