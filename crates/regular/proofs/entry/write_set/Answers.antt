-- `regular::entry::write_set` meets its contract: the bytes are copied.
use native.Mathlib.Omega.{arith}
use lib.ListN.{length-take, length-drop}
use Rattle.regular.proofs.Setting.{set_laid}
use Rattle.regular.proofs.entry.write_set.Goals as goal

pub copy_from_slice-requires : goal.copy_from_slice-requires
copy_from_slice-requires c = simp (length-take, length-drop) (omega arith)

pub returns : goal.returns
returns c =
    let a = c.args in
    set_laid a.work.now a.out.now c.copy_from_slice.new.self a.at c.requires.0 c.requires.1 (λ i. omega (arith, c.type_inv.work i)) c.copy_from_slice.ensures.after
