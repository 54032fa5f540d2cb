-- `tables::words::widen` meets its contract: what is filled from c + count on is made of words below.
use Rattle.std.proofs.Common.{rules, drop, get_or, bit_or, ◌≡◌, ◌+◌}
use mathlib.Core.Path.{ap, ◌∙◌}
use native.Mathlib.Omega.{arith}
use Rattle.areas.proofs.Parts.{part_under, filled_part}
use Rattle.tables.proofs.words.widen.Goals as goal

pub returns : goal.returns
returns c =
    let s = c.split_at_mut-below.ensures in
    let v = c.split_at_mut-below.result.0.now in
    filled_part _ s.front (ap (drop c.args.count) s.back) (omega arith) (search rules) (λ x h.
    let e = c.fill.ensures.gives x 0 (search rules) in
    let q : get_or c.fill.new.target x 0 ≡ bit_or (get_or v (c.args.c + x) 0) c.args.p = search rules in
    q ∙ ap (λ y. bit_or y c.args.p) (part_under _ s.front (c.args.c + x) (omega arith)))
