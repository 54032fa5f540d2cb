-- `regular_sets::bytes::copy` meets its contract: the bytes of the one set are copied to the other.
use Prim.Native.Nat.{◌+◌, ◌-◌, ◌<◌}
use mathlib.Core.Path.{◌≡◌, ap, ◌∙◌}
use native.Mathlib.Omega.{arith}
use lib.ListN.{get_or}
use Rattle.case_model.specs.Areas.{from}
use Rattle.regular_model.proofs.SetBytes.{held_byte}
use Rattle.regular_sets.proofs.bytes.copy.Goals as goal

pub returns : goal.returns
returns c =
    let (copied, under, over) = c.copy_within.ensures.by_index in
    let w = c.args.work.now in
    let at = c.args.c in
    record {
      long = c.copy_within.ensures.len;
      inside = λ x h.
          let i : c.args.a + (at + x - at) ≡ c.args.a + x = omega arith in
          let e = copied (at + x) 0 (omega arith) (omega arith) ∙ ap (λ p. get_or w p 0) i in
          let small : from w c.args.a x < 256 = omega (arith, e, c.type_inv.work (at + x)) in
          e ∙ held_byte w c.args.a x small h;
      under = λ p h. under p 0 h;
      over = λ p h. over p 0 (omega arith);
    }
