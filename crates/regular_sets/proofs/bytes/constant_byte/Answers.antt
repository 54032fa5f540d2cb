-- `regular_sets::bytes::constant_byte` meets its contract: of no states, each bit is 0.
use mathlib.Core.Path.{sym, ◌∙◌}
use native.Mathlib.Omega.{arith}
use Rattle.flc.proofs.Masks.{has_empty, set_of-none}
use Rattle.regular_model.proofs.SetBytes.{byte_ext}
use Rattle.regular_sets.proofs.bytes.constant_byte.Goals as goal

pub returns-then-full : goal.returns-then-full
returns-then-full c = rw c.if-full.true c.full_byte.ensures

pub returns-else-full : goal.returns-else-full
returns-else-full c =
    rw (c.if-full.false, set_of-none c.args.n) (byte_ext 0 c.args.i 0 (omega arith) (λ t l. has_empty t ∙ sym (has_empty _)))
