-- `regular_sets::members::store` meets its contract: each byte of the set is filled.
use Rattle.std.proofs.Common.{rules, drop, ◌≡◌, ◌+◌, ◌-◌}
use mathlib.Core.Path.{refl, ap}
use native.Mathlib.Omega.{arith}
use Rattle.areas.proofs.Parts.{filled_part}
use Rattle.regular_sets.proofs.members.store.Goals as goal

pub returns : goal.returns
returns g c = λ x t.
    let k : c.args.c + 32 - c.args.c ≡ 32 = omega arith in
    filled_part c.fill.new.target refl (ap (λ k. drop k (drop c.args.c c.args.work.now)) k) (omega arith) (search rules) (λ i h.
    let e = c.fill.ensures.gives i 0 (search rules) in search rules)
