-- `case_file::vetting::Vetting::rows` meets its contract: row 3 stands third.
use borrow.Author.Rules.{rules}
use Rattle.case_model.specs.Rows.{refusals}
use Rattle.case_file.proofs.vetting.Vetting.rows.Goals as goal

pub returns-in_err-steps-clause-finds : goal.returns-in_err-steps-clause-finds
unfolding refusals
returns-in_err-steps-clause-finds c =
    let pairs = c.in_ok-pairs.ensures in
    let labels = c.in_ok-labels.ensures in
    let one = pairs.finds in
    let two = rw pairs.kept at labels.finds in
    let three = rw (labels.kept, pairs.kept) at c.in_err-steps.ensures.finds in
    rw (← one, ← two, ← three) (search rules)
