-- `regular_sets::bytes::take` meets its contract: the bytes that are copied are the set's.
use Prim.Native.Nat.{◌+◌, ◌-◌}
use mathlib.Core.Path.{◌≡◌, ap, ◌∙◌}
use native.Mathlib.Omega.{arith}
use lib.ListN.{get_or, drop}
use Rattle.std.proofs.lemmas.List.{get_or-take, get_or-drop}
use Rattle.regular_model.proofs.SetBytes.{held_same}
use Rattle.regular_sets.proofs.bytes.take.Goals as goal

pub returns : goal.returns
returns c =
    let w = c.args.work.now in
    let a = c.args.a in
    record {
      long = c.copy_from_slice.ensures.len;
      is = held_same w c.copy_from_slice.new.self 0 a (λ i h.
          let z : 0 + i ≡ i = omega arith in
          ap (λ i. get_or c.copy_from_slice.new.self i 0) z ∙ ap (λ l. get_or l i 0) c.copy_from_slice.ensures.after
          ∙ get_or-take (a + 32 - a) (drop a w) i 0 (omega arith) ∙ get_or-drop a w i 0);
    }
