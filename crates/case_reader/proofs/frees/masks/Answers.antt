-- `case_reader::frees::masks` meets its contract: as many nodes are filled as the table has room for, and the others' entries are empty.
use mathlib.Core.Path.{◌∙◌}
use native.Mathlib.Omega.{arith}
use Rattle.case_model.specs.Case.{read}
use Rattle.case_reader.specs.Read.{free_sets}
use Rattle.case_reader.proofs.FreeSets.{masks_sets}
use Rattle.case_reader.proofs.frees.masks.Goals as goal

pub returns : goal.returns
unfolding free_sets
returns c =
    c.below.ensures
    ∙ masks_sets (read c.args.file.now) c.min.result (omega (arith, c.min.ensures)) (λ i h l. omega (arith, c.min.ensures, c.node_count.ensures.is))
