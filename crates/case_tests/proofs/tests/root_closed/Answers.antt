-- `case_tests::tests::root_closed` meets its contract: the root's entry of the table is empty exactly if nothing is free in the root.
use native.Mathlib.Omega.{arith}
use Rattle.case_model.specs.Case.{read, rule}
use Rattle.case_reader.proofs.FreeSets.{closed_empty}
use Rattle.case_reader.proofs.Readers.{free_set_lem}
use Rattle.case_tests.proofs.tests.root_closed.Goals as goal

pub returns : goal.returns
unfolding rule
returns c =
    let f = read c.args.file.now in
    rw (c.masks.ensures, c.root.ensures.is, free_set_lem f f.root (omega (arith, c.requires))) (closed_empty f)
