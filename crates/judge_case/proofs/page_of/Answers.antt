-- `judge_case::page_of` meets its contract: what is printed is judging's reply on all states,
-- and only an accepted case, which has at most 16 states, is answered.
use mathlib.Core.Path.{sym, ap, ◌∙◌}
use native.Mathlib.Omega.{arith}
use Rattle.case_model.specs.Judging.{judging}
use Rattle.case_model.proofs.Judged.{judged_few}
use Rattle.judge.specs.EnumNumbers.{judged_reply}
use Rattle.judge_case.proofs.Texts.{shows_as}
use Rattle.judge_case.proofs.Pages.{judged_page}
use Rattle.judge_case.proofs.page_of.Goals as goal

pub verdict_page-requires : goal.verdict_page-requires
verdict_page-requires c =
    let reply = sym (ap judged_reply c.in-Ok.is) ∙ c.judge.ensures.result_value in
    omega (arith, c.state_count-states.ensures.is, judged_few _ _ _ (sym reply))

pub returns-in-Ok : goal.returns-in-Ok
returns-in-Ok c =
    let reply = sym (ap judged_reply c.in-Ok.is) ∙ c.judge.ensures.result_value ∙ ap (judging _ _) c.requires in
    let shown = rw c.starts_hold.ensures at c.verdict_page.ensures in
    shows_as (judged_page _ _ _ c.state_count-states.ensures.is c.all_states.ensures reply) shown

pub returns-in-Err : goal.returns-in-Err
returns-in-Err c =
    let reply = sym (ap judged_reply c.in-Err.is) ∙ c.judge.ensures.result_value ∙ ap (judging _ _) c.requires in
    shows_as (judged_page _ _ _ c.state_count-states.ensures.is c.all_states.ensures reply) c.refusal_page.ensures
