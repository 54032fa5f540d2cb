-- `hoidrul::hoidrul_judge_kinds` meets its contract: the reply of judging by a table of kinds, packed.
use native.Mathlib.Omega.{arith}
use mathlib.Core.Path.{sym, ap, subst, ◌∙◌}
use Rattle.hoidrul.specs.Packing.{Fits, Brief, packed, verdict_word}
use Rattle.hoidrul.proofs.Words.{judging-kinds-fits}
use Rattle.hoidrul.proofs.hoidrul_judge_kinds.Goals as goal

pub verdict_word-requires : goal.verdict_word-requires
verdict_word-requires c =
    subst (Fits Brief) (sym c.judge_kinds.ensures.result_value)
    (judging-kinds-fits c.args.kinds.now c.args.file.now (λ i. omega (arith, c.type_inv.kinds i))
    (λ i. omega (arith, c.type_inv.file i)) _ _)

pub returns : goal.returns
returns c =
    let j = c.judge_kinds.ensures in
    record { value = c.verdict_word.ensures ∙ ap (packed verdict_word) j.result_value; work_after = j.work_after }
