-- `regular_sets::bytes::member` meets its contract: state t is bit t % 8 of byte t / 8.
use Prim.Native.Nat.{◌+◌, ◌/◌, ◌%◌}
use mathlib.Core.Path.{◌≡◌, sym, ap, ◌∙◌}
use native.Mathlib.Omega.{arith}
use lib.ListN.{get_or}
use Rattle.flc.specs.Sets.{has}
use Rattle.regular_model.proofs.SetBytes.{held_has}
use Rattle.regular_sets.proofs.bytes.member.Goals as goal

pub returns : goal.returns
unfolding has
returns c =
    let x = c.args.x.now in
    let t = c.args.t in
    let e : 0 + t / 8 ≡ t / 8 = omega arith in
    sym (held_has x 0 t c.requires.0 ∙ ap (λ k. has (get_or x k 0) (t % 8)) e)
