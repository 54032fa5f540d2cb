-- `case_tests::tests::first_wrong_step` meets its contract: `find` gives the lowest step that is wrong.
use borrow.Author.Rules.{rules}
use Rattle.case_model.specs.Case.{read}
use Rattle.case_model.specs.Rows.{step_wrong}
use Rattle.case_tests.proofs.Chain.{lowest_below}
use Rattle.case_tests.proofs.tests.first_wrong_step.Goals as goal

pub returns : goal.returns
returns c =
    lowest_below _ c.find.result c.args.count (step_wrong (read c.args.file.now)) c.find.ensures.ran (λ x b q k. search rules)
