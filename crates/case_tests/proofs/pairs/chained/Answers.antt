-- `case_tests::pairs::chained` meets its contract: `all` tests what stands between two sections, one pair after the other.
use borrow.Author.Rules.{rules}
use Prim.Native.Nat.{◌-◌}
use mathlib.Core.Path.{sym, ap, ◌∙◌}
use lib.Dec.{eqb}
use lib.ListN.{length}
use Rattle.flc.proofs.Chains.{all_below}
use Rattle.case_model.specs.Limits.{sections}
use Rattle.case_tests.proofs.Chain.{padded, chained-padded, chained-broken}
use Rattle.case_tests.proofs.pairs.chained.Goals as goal

pub returns-then-all : goal.returns-then-all
returns-then-all c =
    let f = c.args.file.now in
    let told = all_below c.all.result (sections - 1) (padded f) c.all.ensures.ran (λ x b q k. search rules) in
    ap (λ x. eqb x (length f)) c.section_end.ensures.is ∙ sym (chained-padded f (sym told ∙ c.if-all.true))

pub returns-else-all : goal.returns-else-all
returns-else-all c =
    let f = c.args.file.now in
    let told = all_below c.all.result (sections - 1) (padded f) c.all.ensures.ran (λ x b q k. search rules) in
    c.if-all.false ∙ sym (chained-broken f (sym told ∙ c.if-all.false))
