-- `judge::entry::judge_accepted` meets its contract: rows 8 and 9, and else the area is cleared after the answer.
use Prim.Native.Nat.{ℕ, ◌*◌, ◌^◌, ◌<◌}
use mathlib.Core.Bool.{Bool, true}
use mathlib.Core.List.{List}
use mathlib.Core.Path.{◌≡◌, refl, sym, ap, ap₂, ◌∙◌, subst}
use borrow.Author.Rules.{rules}
use borrow.Author.Tests.{ltb-true, leb-true}
use lib.Dec.{leb, ltb}
use lib.ListN.{length, replicate}
use Rattle.case_model.specs.Case.{read}
use Rattle.case_model.specs.Rows.{unless}
use Rattle.case_model.specs.Judging.{cleared}
use Rattle.case_model.specs.Limits.{standard}
use Rattle.case_model.specs.Replies.{answers, Counts, Accepted}
use Rattle.case_model.proofs.Judged.{judging_answers}
use Rattle.case_model.proofs.Valid.{accepted_valid}
use Rattle.case_file.proofs.Refusals.{of_reason}
use Rattle.engine.proofs.Asking.{asked}
use Rattle.judge.proofs.Answering.{judging_beyond, judging_short, plan_verdict_lem}
use Rattle.judge.proofs.entry.judge_accepted.Goals as goal

-- the two tests, of the file's own counts
set_tested : {f : List ℕ} {n : Counts} {b : Bool} (x : ℕ) → Accepted standard f n → b ≡ ltb x (2 ^ n.states) → ltb x (2 ^ length (read f).labels) ≡ b
set_tested x a e = sym (e ∙ ap (λ n. ltb x (2 ^ n)) a.states)

area_tested : {f : List ℕ} {n : Counts} {b : Bool} (words : ℕ) → Accepted standard f n → b ≡ leb (2 * n.nodes * 2 ^ n.states) words
    → leb (2 * length (read f).nodes * 2 ^ length (read f).labels) words ≡ b
area_tested words a e = sym (e ∙ ap₂ (λ m n. leb (2 * m * 2 ^ n) words) a.nodes a.states)

-- past row 8 the set is one of the case's
inside : {f : List ℕ} {n : Counts} {b : Bool} (x : ℕ) → Accepted standard f n → b ≡ ltb x (2 ^ n.states) → b ≡ true → x < 2 ^ length (read f).labels
inside x a e t = ltb-true _ _ (set_tested x a e ∙ t)

pub returns-then-not-has_set : goal.returns-then-not-has_set
returns-then-not-has_set c =
    let w = c.args.work.now in
    let a = c.args.case.accepted in
    let tested = set_tested c.args.set a c.has_set.ensures in
    let j = judging_beyond c.args.case.file.now c.args.set (length w) a.rows (tested ∙ c.if-not-has_set.true) in
    record { result_value = of_reason _ c.into.ensures ∙ sym j; work_after = subst (λ R. w ≡ cleared R w) (sym j) refl }

pub returns-then-not-has_area : goal.returns-then-not-has_area
returns-then-not-has_area c =
    let w = c.args.work.now in
    let a = c.args.case.accepted in
    let tested = area_tested (length c.args.work.now) a c.has_area.ensures in
    let j = judging_short c.args.case.file.now c.args.set (length w) a.rows (inside c.args.set a c.has_set.ensures c.if-not-has_set.false)
    (tested ∙ c.if-not-has_area.true) in
    record { result_value = of_reason _ c.into-then-not-has_area.ensures ∙ sym j; work_after = subst (λ R. w ≡ cleared R w) (sym j) refl }

pub plan-plan-requires : goal.plan-plan-requires
plan-plan-requires c = rw c.file.ensures (accepted_valid standard _ c.args.case.accepted.rows)

pub answer-verdict-requires : goal.answer-verdict-requires
answer-verdict-requires c =
    let a = c.args.case.accepted in
    asked (rw c.file.ensures at c.plan-plan.ensures) (inside c.args.set a c.has_set.ensures c.if-not-has_set.false)
    (leb-true _ _ (area_tested (length c.args.work.now) a c.has_area.ensures ∙ c.if-not-has_area.false))

pub returns : goal.returns
returns c =
    let w = c.args.work.now in
    let a = c.args.case.accepted in
    let long : length c.answer-verdict.new.work ≡ length w = search rules in
    let room = ap (λ b. unless b 9 0) (area_tested (length c.args.work.now) a c.has_area.ensures ∙ c.if-not-has_area.false) in
    let j = judging_answers c.args.case.file.now c.args.set (length w) a.rows (inside c.args.set a c.has_set.ensures c.if-not-has_set.false) room in
    record {
      result_value = ap answers (c.answer-verdict.ensures ∙ plan_verdict_lem (rw c.file.ensures at c.plan-plan.ensures) c.args.set) ∙ sym j;
      work_after = subst (λ R. c.clear.new.work ≡ cleared R w) (sym j) (c.clear.ensures ∙ ap (λ n. replicate n 0) long);
    }
