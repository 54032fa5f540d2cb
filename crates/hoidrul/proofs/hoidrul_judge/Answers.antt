-- `hoidrul::hoidrul_judge` meets its contract: judging's reply, packed.
use native.Mathlib.Omega.{arith}
use mathlib.Core.Path.{sym, ap, subst, ◌∙◌}
use Rattle.hoidrul.specs.Packing.{Fits, Brief, packed, verdict_word}
use Rattle.hoidrul.proofs.Words.{judging-fits}
use Rattle.hoidrul.proofs.hoidrul_judge.Goals as goal

pub verdict_word-requires : goal.verdict_word-requires
verdict_word-requires c =
    subst (Fits Brief) (sym c.judge.ensures.result_value)
    (judging-fits c.args.file.now (λ i. omega (arith, c.type_inv.file i)) _ _)

pub returns : goal.returns
returns c =
    let j = c.judge.ensures in
    record { value = c.verdict_word.ensures ∙ ap (packed verdict_word) j.result_value; work_after = j.work_after }
