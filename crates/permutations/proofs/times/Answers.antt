-- `permutations::times` meets its contract: the items that are the number are counted.
use Prim.Native.Nat.{ℕ, ◌+◌}
use borrow.Author.Rules.{rules}
use mathlib.Core.Bool.{true, false, cond}
use mathlib.Core.List.{List, ◌∷◌}
use mathlib.Core.Path.{◌≡◌, refl, sym, ◌∙◌}
use lib.Dec.{eqb}
use native.Mathlib.Omega.{arith}
use Rattle.flc.specs.Sets.{bit}
use Rattle.std.specs.Prelude.{◌==◌, count_by}
use Rattle.std.proofs.lemmas.List.Recursion.{is_count_by}
use Rattle.flc.specs.Permutations.{sum_over, times}
use Rattle.permutations.proofs.times.Goals as goal

counted : (i : ℕ) (l : List ℕ) → times i l ≡ count_by (λ j. j == i) l
unfolding times sum_over
counted i l = is_count_by (times i) (λ j. j == i) refl more l
  where
    more : (j : ℕ) (l : List ℕ) → times i (j ∷ l) ≡ cond (j == i) (1 + times i l) (times i l)
    more j l = elim (eqb j i) as (λ b. bit b + times i l ≡ cond b (1 + times i l) (times i l)) [ true ↦ refl | false ↦ omega arith ]

pub returns : goal.returns
returns c =
    let all : c.count.result ≡ count_by (λ j. j == c.args.number) c.args.list.now = search rules in
    all ∙ sym (counted c.args.number c.args.list.now)
