-- `regular_sets::bytes::intersection` meets its contract: what is filled from c on is made of bytes below.
use Rattle.std.proofs.Common.{rules, ◌++◌, drop, get_or, bit_and, ◌≡◌, ◌+◌}
use mathlib.Core.Path.{ap, ap₂, ◌∙◌}
use native.Mathlib.Omega.{arith}
use Rattle.areas.proofs.Parts.{filled_part}
use Rattle.regular_model.proofs.SetBytes.{byte_and}
use Rattle.regular_sets.proofs.ByteLoops.{held_below}
use Rattle.regular_sets.proofs.bytes.intersection.Goals as goal

pub returns : goal.returns
returns c =
    let s = c.split_at_mut-below.ensures in
    let v = c.split_at_mut-below.result.0.now in
    let held = held_below c.args.work.now s.front (c.fill.new.target ++ c.split_at_mut-set.result.1.now) (λ p. omega (arith, c.type_inv.work p)) in
    filled_part _ s.front (c.split_at_mut-set.ensures.back ∙ ap (drop 32) s.back) (omega arith) (search rules) (λ x h.
    let e = c.fill.ensures.gives x 0 (search rules) in
    let q : get_or c.fill.new.target x 0 ≡ bit_and (get_or v (c.args.a + x) 0) (get_or v (c.args.b + x) 0) = search rules in
    q ∙ ap₂ bit_and (held c.args.a x (omega arith) (omega arith) h) (held c.args.b x (omega arith) (omega arith) h) ∙ byte_and _ _ _)
