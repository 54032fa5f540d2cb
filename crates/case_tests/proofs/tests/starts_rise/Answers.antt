-- `case_tests::tests::starts_rise` meets its contract: `all` tests every start state.
use borrow.Author.Rules.{rules}
use mathlib.Core.Bool.{not}
use mathlib.Core.Path.{ap, ◌∙◌}
use Prim.Native.Nat.{ℕ}
use mathlib.Core.Bool.{Bool}
use Rattle.flc.specs.Sets.{for_all}
use Rattle.flc.proofs.Chains.{all_below}
use Rattle.case_model.specs.Case.{read}
use Rattle.case_model.specs.Rows.{start_wrong}
use Rattle.case_tests.proofs.tests.starts_rise.Goals as goal

pub returns : goal.returns
returns c =
    let right : ℕ → Bool = λ i. not (start_wrong (read c.args.file.now) i) in
    all_below c.all.result c.start_count.result right c.all.ensures.ran (λ x b q k. search rules)
    ∙ ap (λ n. for_all n right) c.start_count.ensures.is
