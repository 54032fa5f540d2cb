-- `case_reader::parts::triple_count` meets its contract: a third of the section's size.
use native.Mathlib.Omega.{arith}
use mathlib.Core.Path.{sym, ◌∙◌, ap}
use Prim.Native.Nat.{◌/◌}
use Rattle.case_model.proofs.Lists.{length-list_of}
use Rattle.case_reader.proofs.parts.triple_count.Goals as goal

pub returns : goal.returns
returns c = record { is = ap (λ x. x / 3) c.word.ensures.is ∙ sym (length-list_of _ _); small = omega (arith, c.word.ensures.small) }
