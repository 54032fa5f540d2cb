-- A file that is accepted within some limits is accepted within wider ones: rows 3 to 7 know no limits, and rows 1 and 2 ask less.
use Prim.Native.Nat.{ℕ, ◌*◌, ◌-◌, ◌≤◌}
use mathlib.Core.Bool.{true}
use mathlib.Core.List.{List}
use mathlib.Core.Path.{◌≡◌}
use native.Mathlib.Nat.{le_trans}
use borrow.Author.Tests.{leb-true, le-leb}
use lib.Dec.{eqb, leb}
use lib.ListN.{length}
use Rattle.case_model.specs.Limits.{Limits, sections}
use Rattle.case_model.specs.Bytes.{offset, chained, pairs_hold}
use Rattle.case_model.specs.Case.{Case, read}
use Rattle.case_model.specs.Rows.{Found, sound, ◌or_else◌, labels_hold, row1, row2, row3, row4, row5, row6, row7, refusals}
use Rattle.case_model.proofs.Sections.{left_sound, right_sound, unless_sound}
use Rattle.case_model.proofs.Tests.{and_l, and_r}

-- an earlier row may be exchanged for one that finds nothing where it finds nothing
exchanged : (a b later : Found) → (a ≡ sound → b ≡ sound) → a or_else later ≡ sound → b or_else later ≡ sound
exchanged a b later h e = rw (h (left_sound a later e)) (right_sound a later e)

module _ {most wide : Limits} (longer : most.longest ≤ wide.longest) (more : most.states ≤ wide.states) (f : List ℕ) where
  pairs-wider : pairs_hold most f ≡ true → pairs_hold wide f ≡ true
  unfolding pairs_hold
  pairs-wider e =
      let few : leb (length f) most.longest ≡ true = search (and_l, and_r) in
      let long : leb (length f) wide.longest ≡ true = le-leb (length f) wide.longest (le_trans (leb-true _ _ few) longer) in
      let head : leb (4 * sections) (length f) ≡ true = search (and_l, and_r) in
      let start : eqb (offset f 0) (4 * sections) ≡ true = search (and_l, and_r) in
      let rest : chained f 0 (sections - 1) ≡ true = search (and_l, and_r) in
      rw (head, long, start, rest)

  labels_wider : (c : Case) → labels_hold most c ≡ true → labels_hold wide c ≡ true
  labels_wider c e =
      let few : leb (length c.labels) most.states ≡ true = search and_r in
      let many : leb (length c.labels) wide.states ≡ true = le-leb (length c.labels) wide.states (le_trans (leb-true _ _ few) more) in
      let some : leb 1 (length c.labels) ≡ true = search and_l in
      rw (some, many)

  first_two : row1 most f or_else row2 most (read f) ≡ sound → row1 wide f or_else row2 wide (read f) ≡ sound
  first_two e =
      let one = pairs-wider (unless_sound (pairs_hold most f) 1 0 (left_sound (row1 most f) (row2 most (read f)) e)) in
      let two = labels_wider (read f) (unless_sound (labels_hold most (read f)) 2 0 (right_sound (row1 most f) (row2 most (read f)) e)) in
      rw (one, two)

  pub wider : refusals most f ≡ sound → refusals wide f ≡ sound
  unfolding refusals
  wider =
      exchanged _ _ (row7 (read f)) (exchanged _ _ (row6 (read f)) (exchanged _ _ (row5 (read f)) (exchanged _ _ (row4 f (read f))
      (exchanged _ _ (row3 f (read f)) first_two))))
