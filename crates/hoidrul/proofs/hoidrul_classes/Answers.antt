-- `hoidrul::hoidrul_classes` meets its contract: the reply of classes, packed.
use native.Mathlib.Omega.{arith}
use mathlib.Core.Path.{sym, ap, subst, ◌∙◌}
use Rattle.hoidrul.specs.Packing.{Fits, Short, packed, itself}
use Rattle.hoidrul.proofs.Words.{classing-fits}
use Rattle.hoidrul.proofs.hoidrul_classes.Goals as goal

pub count_word-requires : goal.count_word-requires
count_word-requires c =
    subst (Fits Short) (sym c.classes.ensures.result_value)
    (classing-fits c.args.file.now (λ i. omega (arith, c.type_inv.file i)) _)

pub returns : goal.returns
returns c =
    let j = c.classes.ensures in
    record { value = c.count_word.ensures ∙ ap (packed itself) j.result_value; out_after = j.out_after }
