-- `regular_sets::bytes::advance` meets its contract: the part from c on begins with the set, and the other lies below.
use mathlib.Core.List.{◌++◌}
use mathlib.Core.Path.{sym, ap, ◌∙◌}
use native.Mathlib.Omega.{arith}
use lib.ListN.{take, drop}
use Rattle.areas.proofs.Parts.{part_under}
use Rattle.areas.proofs.Advancing.{advanced}
use Rattle.case_model.proofs.Filling.{filled_ext}
use Rattle.regular_model.proofs.SetBytes.{held_same}
use Rattle.regular_sets.proofs.ByteLoops.{held_below}
use Rattle.regular_sets.proofs.bytes.advance.Goals as goal

pub returns : goal.returns
returns c =
    let w = c.args.work.now in
    let s = c.split_at_mut-below.ensures in
    let r = c.split_at_mut-set.ensures in
    let held = held_below w s.front (c.advance.new.target ++ c.split_at_mut-set.result.1.now) (λ p. omega (arith, c.type_inv.work p)) in
    let moved = advanced w c.args.b c.args.c 32 s.front (r.front ∙ ap (take 32) s.back) (r.back ∙ ap (drop 32) s.back)
    (omega arith) (omega arith) c.advance.ensures.copied c.advance.ensures.told in
    record {
      stored = filled_ext moved.filled (λ x h. sym (part_under w s.front _ (omega arith)) ∙ held c.args.b x (omega arith) (omega arith) h);
      stood = λ e. held_same w w c.args.b c.args.c (λ i h. moved.stood e i h);
    }
