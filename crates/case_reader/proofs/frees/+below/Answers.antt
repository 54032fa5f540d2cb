-- `case_reader::frees::below` meets its contract, by recursion over the nodes: each call fills one entry more.
use native.Mathlib.Omega.{arith}
use Rattle.case_model.specs.Case.{read}
use Rattle.case_reader.proofs.FreeSets.{masks_more}
use Rattle.case_reader.proofs.frees.+below.Goals as goal

pub below-requires : goal.below-requires  -- below
below-requires t c =
    (omega (arith, c.decreases), (omega (arith, c.requires.0), c.requires.1))

pub returns : goal.returns  -- below
returns t c =
    masks_more (read c.args.file.now) c.args.j c.if-j-eq0.false c.below.ensures c.node.ensures.is c.mask_of.ensures
