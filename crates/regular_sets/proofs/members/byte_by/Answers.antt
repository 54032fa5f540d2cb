-- `regular_sets::members::byte_by` meets its contract: one bit more a turn, the highest first.
use mathlib.Core.Path.{ap, ◌∙◌}
use native.Mathlib.Omega.{arith}
use Rattle.flc.specs.Sets.{bit}
use Rattle.regular_sets.proofs.ByteLoops.{bits_none, bits_turn, bits_done, bit_is, more_room}
use Rattle.regular_sets.proofs.members.byte_by.Goals as goal

pub loop-t-init : goal.loop-t-init
loop-t-init g c = (omega arith, omega arith, λ x e. bits_none x _)

pub loop-t-preserved : goal.loop-t-preserved
loop-t-preserved g c =
    let (h, small, is) = c.loop-t.invariant in
    let t = c.loop-t.t in
    let b = c.from.ensures ∙ bit_is c.test.result in (
      omega (arith, h),
      more_room t c.test.result c.loop-t-test.true h small b,
      λ x e. bits_turn x _ t _ _ c.loop-t-test.true h (is x e) (b ∙ ap bit (e _ _ (omega (arith, h, c.requires.inside)) c.test.ensures)),
    )

pub returns : goal.returns
returns g c = λ x e. bits_done x _ c.loop-t.t _ (omega (arith, c.loop-t-test.false)) (c.loop-t.invariant.2 x e)
