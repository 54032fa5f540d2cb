-- `judge_kinds::entry::judge_exchanged` meets its contract: the front of the copy is the exchanged file.
use mathlib.Core.Path.{sym, ap, ◌∙◌}
use native.Mathlib.Omega.{arith}
use lib.ListN.{length}
use lib.Seq.{length-take-le}
use Rattle.case_model.specs.Judging.{judging, cleared}
use Rattle.case_model.specs.Limits.{standard}
use Rattle.case_model.proofs.Sections.{within_longest}
use Rattle.judge_kinds.proofs.entry.judge_exchanged.Goals as goal

pub exchange-requires : goal.exchange-requires
exchange-requires c = (c.requires, within_longest standard c.args.file.now c.requires)

pub slice_bounds-copy-end : goal.slice_bounds-copy-end
slice_bounds-copy-end c =
    omega (arith, within_longest standard c.args.file.now c.requires, c.exchange.ensures.out_len_unchanged)

pub slice_bounds-judge-end : goal.slice_bounds-judge-end
slice_bounds-judge-end c =
    sym (length-take-le _ c.exchange.new.out (omega (arith, within_longest standard c.args.file.now c.requires, c.exchange.ensures.out_len_unchanged)))

pub returns : goal.returns
returns c =
    let a = c.args in
    let w = a.work.now in
    let copy = c.exchange.ensures.out_after in
    record {
      result_value = c.judge.ensures.result_value ∙ ap (λ g. judging g a.set (length w)) copy;
      work_after = c.judge.ensures.work_after ∙ ap (λ g. cleared (judging g a.set (length w)) w) copy;
    }
