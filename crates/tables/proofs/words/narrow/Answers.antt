-- `tables::words::narrow` meets its contract: what is filled from c on is made of words above.
use Rattle.std.proofs.Common.{rules, drop, get_or, bit_and, ◌≡◌}
use mathlib.Core.Path.{ap, ◌∙◌}
use native.Mathlib.Omega.{arith}
use Rattle.areas.proofs.Parts.{part_over, filled_part}
use Rattle.tables.proofs.words.narrow.Goals as goal

pub returns : goal.returns
returns c =
    let s = c.split_at_mut-run.ensures in
    let above = c.split_at_mut-low.ensures.back ∙ ap (drop c.args.count) s.back in
    filled_part _ s.front above (omega arith) (search rules) (λ x h.
    let e = c.fill.ensures.gives x 0 (search rules) in
    let q : get_or c.fill.new.target x 0 ≡ bit_and (get_or c.split_at_mut-low.result.1.now x 0) c.args.q = search rules in
    q ∙ ap (λ y. bit_and y c.args.q) (part_over _ c.args.c c.args.count above x))
