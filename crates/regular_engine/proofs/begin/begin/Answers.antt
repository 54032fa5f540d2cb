-- `regular_engine::begin::begin` meets its contract: where the binder goes on, the old set stands; else a constant is stored.
use Prim.Native.Nat.{◌+◌}
use mathlib.Core.Bool.{cond}
use mathlib.Core.Path.{refl, sym, ap, ◌∙◌}
use native.Mathlib.Omega.{arith}
use Rattle.case_plan.specs.Moves.{goes_on}
use Rattle.regular_model.specs.Values as sets
use Rattle.regular_model.specs.HeldSets.{held_at}
use Rattle.regular_model.proofs.SetBytes.{held_byte}
use Rattle.regular_sets.proofs.Made.{stored_as}
use Rattle.regular_engine.proofs.begin.begin.Goals as goal

pub returns-then-not-goes_on : goal.returns-then-not-goes_on
unfolding sets.begin
returns-then-not-goes_on c =
    let old = held_at c.args.work.now c.args.c in
    let found = sym c.if-not-goes_on.true ∙ c.goes_on.ensures ∙ ap (λ d. goes_on d c.args.grown) c.of.ensures in
    stored_as c.constant.ensures (ap (λ t. cond t old (sets.begin c.args.least c.args.n)) found)

pub returns-else-not-goes_on : goal.returns-else-not-goes_on
returns-else-not-goes_on c =
    let old = held_at c.args.work.now c.args.c in
    let found = sym c.if-not-goes_on.false ∙ c.goes_on.ensures ∙ ap (λ d. goes_on d c.args.grown) c.of.ensures in
    stored_as (record {
      long = refl;
      inside = λ x h. held_byte c.args.work.now c.args.c x (omega (arith, c.type_inv.work (c.args.c + x))) h;
      under = λ p l. refl;
      over = λ p l. refl;
    }) (ap (λ t. cond t old (sets.begin c.args.least c.args.n)) found)
