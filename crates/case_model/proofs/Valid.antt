-- The case of an accepted file is valid.
-- Nothing was found, so each row found nothing, so each part of its test passed.
use Prim.Native.Nat.{ℕ, ◌%◌}
use mathlib.Core.Bool.{true}
use mathlib.Core.List.{List}
use mathlib.Core.Path.{◌≡◌}
use borrow.Author.Tests.{eqb-true, leb-true, ltb-true, not-false}
use lib.ListN.{length}
use Rattle.case_model.specs.Limits.{Limits}
use Rattle.case_model.specs.Bytes.{size, pairs_hold}
use Rattle.case_model.specs.Case.{read}
use Rattle.case_model.specs.Rows.{sound, step_wrong, start_wrong, node_wrong, binder_wrong, refusals}
use Rattle.case_model.specs.Valid.{Valid}
use Rattle.case_model.proofs.Tests.{and_l, and_r}
use Rattle.case_model.proofs.Sections.{left_sound, right_sound, unless_sound, lowest_sound, none-wrong}

-- from an accepted file back to each row, and to each part of its test
ruleset rows = (left_sound, right_sound, unless_sound, and_l, and_r)

module _ (most : Limits) (f : List ℕ) (e : refusals most f ≡ sound) where
  -- row 1
  pub accepted_pairs : pairs_hold most f ≡ true
  unfolding refusals
  accepted_pairs = search rows depth 10

  -- rows 3 and 4: steps are whole, and so are nodes, but for the root
  pub steps_whole : size f 1 % 3 ≡ 0
  unfolding refusals
  steps_whole = eqb-true _ _ (search rows depth 10)

  pub rule_whole : size f 2 % 3 ≡ 1
  unfolding refusals
  rule_whole = eqb-true _ _ (search rows depth 10)

  -- rows 2 to 7
  pub accepted_valid : Valid most (read f)
  unfolding refusals
  accepted_valid =
      record {
        rule = record {
          most = leb-true _ _ (search rows depth 10);
          root = ltb-true _ _ (search rows depth 10);
          kinds = λ j h. not-false _ (lowest_sound 5 (node_wrong (read f)) (length (read f).nodes) (search rows depth 10) j h);
          binders = lowest_sound 6 (binder_wrong (read f)) (length (read f).nodes) (search rows depth 10);
          closed = search rows depth 10;
        };
        table = record {
          some = leb-true _ _ (search rows depth 10);
          few = leb-true _ _ (search rows depth 10);
          steps = lowest_sound 3 (step_wrong (read f)) (length (read f).steps) (search rows depth 10);
        };
        starts = none-wrong (start_wrong (read f)) (length (read f).starts) (search rows depth 10);
      }
