-- How many kinds there are, where the nodes stand in a file whose pairs hold, and what an area has at its front to which the file was copied.
use Prim.Native.Nat.{ℕ, ◌+◌, ◌*◌, ◌/◌, ◌<◌}
use mathlib.Core.Bool.{true}
use mathlib.Core.List.{List, ◌++◌}
use mathlib.Core.Path.{◌≡◌, refl, ap, ◌∙◌}
use native.Mathlib.Nat.{zero-add}
use native.Mathlib.Omega.{arith}
use lib.ListN.{length, get_or, get_or-append}
use Rattle.flc.specs.Permutations.{is_permutation}
use Rattle.case_model.specs.Areas.{Filled}
use Rattle.case_model.specs.Bytes.{offset, size, pairs_hold}
use Rattle.case_model.specs.Case.{read}
use Rattle.case_model.specs.Kinds.{kinds}
use Rattle.case_model.specs.Limits.{standard}
use Rattle.case_model.proofs.Lists.{length-list_of}
use Rattle.case_model.proofs.Sections.{within}
use Rattle.judge_kinds_model.specs.KindTables.{is_table}
use Rattle.judge_kinds_model.specs.Exchange.{exchanged_byte}
use Rattle.judge_kinds_model.proofs.Exchange.{none_yet}

-- the number of kinds that the code names is that of the table of kinds
pub table_test : (t : List ℕ) → is_permutation 15 t ≡ is_table t
unfolding kinds
table_test t = refl

module _ (f : List ℕ) where
  pub node_count : length (read f).nodes ≡ size f 2 / 3
  node_count = length-list_of (size f 2 / 3) _

  pub kind_inside : pairs_hold standard f ≡ true → (j : ℕ) → j < size f 2 / 3 → offset f 2 + 3 * j < length f
  kind_inside e j h = omega (arith, within standard f e 2 (omega arith))

  -- the file at the front, and no node exchanged yet
  pub copied : (t rest : List ℕ) → Filled (f ++ rest) (f ++ rest) 0 (length f) (exchanged_byte t f 0)
  copied t rest = record {
    long = refl;
    inside = λ x k. ap (λ i. get_or (f ++ rest) i 0) (zero-add x) ∙ get_or-append f rest 0 x k ∙ none_yet t f x;
    under = λ p l. refl;
    over = λ p l. refl;
  }
