-- `tables::words::intersection` meets its contract: what is filled from c on is made of words below.
use Rattle.std.proofs.Common.{rules, drop, get_or, bit_and, ◌≡◌, ◌+◌}
use mathlib.Core.Path.{ap, ap₂, ◌∙◌}
use native.Mathlib.Omega.{arith}
use Rattle.areas.proofs.Parts.{part_under, filled_part}
use Rattle.tables.proofs.words.intersection.Goals as goal

pub returns : goal.returns
returns c =
    let s = c.split_at_mut-below.ensures in
    let v = c.split_at_mut-below.result.0.now in
    filled_part _ s.front (ap (drop c.args.count) s.back) (omega arith) (search rules) (λ x h.
    let e = c.fill.ensures.gives x 0 (search rules) in
    let q : get_or c.fill.new.target x 0 ≡ bit_and (get_or v (c.args.a + x) 0) (get_or v (c.args.b + x) 0) = search rules in
    q ∙ ap₂ bit_and (part_under _ s.front (c.args.a + x) (omega arith)) (part_under _ s.front (c.args.b + x) (omega arith)))
