-- `hoidrul::hoidrul_merge` meets its contract: the reply of merging, packed.
use native.Mathlib.Omega.{arith}
use mathlib.Core.Path.{sym, ap, subst, ◌∙◌}
use Rattle.hoidrul.specs.Packing.{Fits, Short, packed, itself}
use Rattle.hoidrul.proofs.Words.{merging-fits}
use Rattle.hoidrul.proofs.hoidrul_merge.Goals as goal

pub count_word-requires : goal.count_word-requires
count_word-requires c =
    subst (Fits Short) (sym c.merge.ensures.says)
    (merging-fits c.args.file.now (λ i. omega (arith, c.type_inv.file i)) _ _ _)

pub returns : goal.returns
returns c =
    let j = c.merge.ensures in
    record { value = c.count_word.ensures ∙ ap (packed itself) j.says; out_after = j.leaves }
