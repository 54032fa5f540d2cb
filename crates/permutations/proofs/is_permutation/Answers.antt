-- `permutations::is_permutation` meets its contract: each number is looked for.
use borrow.Author.Rules.{rules}
use borrow.Author.Tests.{ne_eqb}
use mathlib.Core.Path.{sym, ◌∙◌}
use lib.Dec.{eqb}
use Rattle.flc.specs.Permutations.{times}
use Rattle.flc.proofs.Chains.{all_below}
use Rattle.flc.proofs.Permutations.{other_length, each_once}
use Rattle.permutations.proofs.is_permutation.Goals as goal

pub returns-then-list-n : goal.returns-then-list-n
returns-then-list-n c =
    let a = c.args in
    all_below c.all.result a.n (λ i. eqb (times i a.list.now) 1) c.all.ensures.ran (λ x b q k. search rules)
    ∙ each_once a.n a.list.now c.if-list-n.true

pub returns-else-list-n : goal.returns-else-list-n
returns-else-list-n c =
    let a = c.args in
    ne_eqb _ _ c.if-list-n.false ∙ sym (other_length a.n a.list.now c.if-list-n.false)
