-- `tables::words::chop` meets its contract: what is filled from c on is made of words below; an entry of the table at b is a set, so it is a place of the other.
use Rattle.std.proofs.Common.{rules, drop, get_or, ◌≡◌, ◌+◌}
use mathlib.Core.Path.{ap, ◌∙◌}
use native.Mathlib.Omega.{arith}
use Rattle.areas.proofs.Parts.{part_under, filled_part}
use Rattle.tables.proofs.words.chop.Goals as goal

pub returns : goal.returns
returns c =
    let s = c.split_at_mut-below.ensures in
    let v = c.split_at_mut-below.result.0.now in
    filled_part _ s.front (ap (drop c.args.count) s.back) (omega arith) (search rules) (λ x h.
    let e = c.fill.ensures.gives x 0 (search rules) in
    let q : get_or c.fill.new.target x 0 ≡ get_or v (c.args.a + get_or v (c.args.b + x) 0) 0 = search rules in
    let y = part_under _ s.front (c.args.b + x) (omega arith) in
    let l = c.requires.3 x h in
    q ∙ ap (λ y. get_or v (c.args.a + y) 0) y ∙ part_under _ s.front _ (omega arith))
