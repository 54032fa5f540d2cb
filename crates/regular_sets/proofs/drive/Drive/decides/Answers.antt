-- `regular_sets::drive::Drive::decides` meets its contract: bit a of the group, and the places of the steps by a.
use Prim.Native.Nat.{ℕ, ◌+◌, ◌*◌, ◌≤◌}
use mathlib.Core.List.{List}
use mathlib.Core.Bool.{Bool, false}
use mathlib.Core.Path.{◌≡◌, refl, ap₂, ◌∙◌}
use native.Mathlib.Omega.{arith}
use borrow.Author.Tests.{eq-eqb, ne_eqb}
use lib.ListN.{length, get_or}
use Rattle.flc.specs.Sets.{both, has}
use Rattle.case_model.specs.Case.{read}
use Rattle.regular_model.specs.HeldSets.{held_at}
use Rattle.regular_model.specs.StepGroups.{hits}
use Rattle.regular_model.proofs.StepGroups.{group_within}
use Rattle.regular_sets.specs.Views.{Viewed}
use Rattle.regular_sets.proofs.drive.Drive.decides.Goals as goal

-- the entry of a key is a place of the list
place : {f index : List ℕ} → Viewed f index → (k : ℕ) → k ≤ 8 * length (read f).labels → get_or index k 0 ≤ length (read f).steps
place v k h = omega (arith, v.places k h, group_within v.table k)

pub hit-requires : goal.hit-requires
hit-requires c = place c.args.self.viewed (8 * c.args.s + c.args.a + 1) (omega (arith, c.requires))

pub returns-then-m-a-eq1 : goal.returns-then-m-a-eq1
unfolding both has
returns-then-m-a-eq1 c =
    let k = 8 * c.args.s + c.args.a in
    let places = c.args.self.viewed.places in
    rw (eq-eqb _ _ c.if-m-a-eq1.true) (c.hit.ensures
    ∙ ap₂ (hits _ (held_at c.args.x.now 0) c.args.m.some) (places k (omega (arith, c.requires))) (places (k + 1) (omega (arith, c.requires))))

-- an action that the group has not
out : (a b : Bool) → a ≡ false → a ≡ both a b
unfolding both
out a b e = rw e refl

pub returns-else-m-a-eq1 : goal.returns-else-m-a-eq1
unfolding has
returns-else-m-a-eq1 c = out _ _ (ne_eqb _ _ c.if-m-a-eq1.false)
