-- The reply where only row 13 is left: by the length of the new file.
use mathlib.Core.List.{List}
use mathlib.Core.Path.{◌≡◌}
use Prim.Native.Nat.{ℕ, ◌≤◌, ◌<◌}
use native.Mathlib.Omega.{arith}
use borrow.Author.Tests.{le-leb, lt-leb}
use lib.ListN.{length}
use Rattle.case_model.specs.Areas.{Laid}
use Rattle.case_model.specs.Replies.{answers, refuses, counted, written}
use Rattle.case_model.proofs.Laying.{laid_whole}
use Rattle.merged_file.specs.Merged.{new_file, fitting}
use Rattle.merged_steps.specs.declared.rows.Pair.{Pair}

module _ (f out : List ℕ) (p : Pair) (all : ℕ) (is : all ≡ length (new_file f p)) where
  pub short : length out < all → fitting f p (length out) ≡ refuses 13 0
  unfolding fitting
  short h = rw (lt-leb (length (new_file f p)) (length out) (omega arith))

  fits : all ≤ length out → fitting f p (length out) ≡ answers (new_file f p)
  unfolding fitting
  fits h = rw (le-leb (length (new_file f p)) (length out) (omega arith))

  -- the count, and the output area
  pub answered_count : all ≤ length out → answers all ≡ counted (fitting f p (length out))
  answered_count h = rw (fits h, is)

  pub answered_area : {v : List ℕ} → all ≤ length out → Laid out v 0 (length (new_file f p)) (new_file f p) → v ≡ written (fitting f p (length out)) out
  answered_area h l = rw (fits h) (laid_whole l (omega arith))
