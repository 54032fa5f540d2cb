-- `hoidrul::hoidrul_rewrite` meets its contract: the reply of rewriting, packed.
use native.Mathlib.Omega.{arith}
use mathlib.Core.Path.{sym, ap, subst, ◌∙◌}
use Rattle.hoidrul.specs.Packing.{Fits, Short, packed, itself}
use Rattle.hoidrul.proofs.Words.{rewriting-fits}
use Rattle.hoidrul.proofs.hoidrul_rewrite.Goals as goal

pub count_word-requires : goal.count_word-requires
count_word-requires c =
    subst (Fits Short) (sym c.rewrite.ensures.says)
    (rewriting-fits c.args.file.now (λ i. omega (arith, c.type_inv.file i)) _ _ _)

pub returns : goal.returns
returns c =
    let j = c.rewrite.ensures in
    record { value = c.count_word.ensures ∙ ap (packed itself) j.says; out_after = j.leaves }
