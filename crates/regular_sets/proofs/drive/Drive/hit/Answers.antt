-- `regular_sets::drive::Drive::hit` meets its contract. The loop's invariant: what the search from i on finds is the answer.
use Prim.Native.Nat.{ℕ}
use mathlib.Core.Bool.{Bool, beq}
use mathlib.Core.Path.{◌≡◌, refl, sym, ap, ◌∙◌}
use native.Mathlib.Omega.{arith}
use Rattle.flc.specs.Sets.{has}
use Rattle.flc.specs.Order.{signed}
use Rattle.regular_model.specs.HeldSets.{held_at}
use Rattle.regular_sets.proofs.Flags.{same-signed}
use Rattle.regular_sets.proofs.Hitting.{hits_yes, hits_on, hits-end}
use Rattle.regular_sets.proofs.drive.Drive.hit.Goals as goal

pub loop-i-init : goal.loop-i-init
loop-i-init c = refl

-- what was tested is whether the step's target, which was read, decides
tested : (into : Bool) (x : ℕ) {inside : Bool} {target t : ℕ} → inside ≡ has x target → target ≡ t → beq inside into ≡ signed into (has x t)
tested into x {inside = inside} p q = same-signed inside into ∙ ap (signed into) (p ∙ ap (has x) q)

pub returns-then-member-into : goal.returns-then-member-into
returns-then-member-into c =
    let e = tested c.args.into (held_at c.args.x.now 0) c.member.ensures c.target.ensures.is in
    sym (c.loop-i.invariant ∙ hits_yes _ _ _ c.loop-i.i _ c.loop-i-test.true (sym e ∙ c.if-member-into.true))

pub loop-i-preserved : goal.loop-i-preserved
loop-i-preserved c =
    let e = tested c.args.into (held_at c.args.x.now 0) c.member.ensures c.target.ensures.is in
    c.loop-i.invariant ∙ hits_on _ _ _ c.loop-i.i _ (sym e ∙ c.if-member-into.false)

pub returns : goal.returns
returns c = sym (c.loop-i.invariant ∙ hits-end _ _ _ c.loop-i.i _ (omega (arith, c.loop-i-test.false)))
