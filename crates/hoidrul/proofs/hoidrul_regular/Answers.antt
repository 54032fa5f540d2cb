-- `hoidrul::hoidrul_regular` meets its contract: the reply of the judge of regular rules, packed.
use native.Mathlib.Omega.{arith}
use mathlib.Core.Path.{sym, ap, subst, ◌∙◌}
use Rattle.hoidrul.specs.Packing.{Fits, Short, packed, itself}
use Rattle.hoidrul.proofs.Words.{regular-fits}
use Rattle.hoidrul.proofs.hoidrul_regular.Goals as goal

pub count_word-requires : goal.count_word-requires
count_word-requires c =
    subst (Fits Short) (sym c.regular.ensures.result_value)
    (regular-fits c.args.file.now (λ i. omega (arith, c.type_inv.file i)) _ _)

pub returns : goal.returns
returns c =
    let j = c.regular.ensures in
    record { value = c.count_word.ensures ∙ ap (packed itself) j.result_value; out_after = j.out_after; work_after = j.work_after }
