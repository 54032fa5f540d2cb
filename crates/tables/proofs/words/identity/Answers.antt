-- `tables::words::identity` meets its contract: a number below 65536 is its own word.
use Rattle.std.proofs.Common.{rules, drop, ◌≡◌, ◌+◌, ◌-◌}
use mathlib.Core.Path.{refl, ap}
use native.Mathlib.Omega.{arith}
use Rattle.areas.proofs.Parts.{filled_part}
use Rattle.tables.proofs.words.identity.Goals as goal

pub returns : goal.returns
returns c =
    let k : c.args.c + c.args.count - c.args.c ≡ c.args.count = omega arith in
    filled_part c.fill.new.target refl (ap (λ k. drop k (drop c.args.c c.args.work.now)) k) (omega arith) (search rules) (λ x h.
    let e = c.fill.ensures.gives x 0 (search rules) in search rules)
