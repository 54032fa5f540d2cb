-- What a search for the lowest wrong place finds is the row's: no place is past the last.
use Prim.Native.Nat.{ℕ, ◌≤◌}
use mathlib.Core.Bool.{Bool, cond}
use mathlib.Core.Path.{◌≡◌}
use native.Mathlib.Decide.{dec_lt}
use native.Mathlib.Omega.{arith}
use borrow.Author.Tests.{eq-eqb, ne_eqb, lt-ltb, le-ltb}
use lib.Dec.{eqb, ltb}
use Rattle.std.specs.declared.option.Option.TheVariants.{None, Some}
use Rattle.flc.specs.Sets.{first}
use Rattle.flc.proofs.Tests.{first_le}
use Rattle.case_model.specs.Rows.{unless, lowest}
use Rattle.case_tests.specs.RowTests.{lowest_of}
use Rattle.case_file.specs.VettingStages.{refused_at}

pub lowest_found : (k n : ℕ) (wrong : ℕ → Bool) → refused_at k (lowest_of wrong n) ≡ lowest k wrong n
unfolding lowest_of lowest
lowest_found k n wrong = go (first wrong 0 n) (omega (arith, first_le wrong 0 n))
  where
    go : (i : ℕ) → i ≤ n → refused_at k (cond (ltb i n) (Some i) None) ≡ unless (eqb i n) k i
    go i h = elim (dec_lt i n) [
      | yes l ↦ rw (lt-ltb i n l, ne_eqb i n (λ e. omega arith))
      | no l ↦ rw (le-ltb i n (omega arith), eq-eqb i n (omega arith))
    ]
