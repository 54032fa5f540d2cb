-- `bisimilarity::refinement::met_by` meets its contract. The loop's invariant: the test of the states below u; as masks it is that of the sets.
use mathlib.Core.Path.{◌≡◌, refl, ◌∙◌}
use native.Mathlib.Omega.{arith}
use Rattle.flc.specs.Sets.{implies, for_all, has}
use Rattle.bisimilarity.proofs.Sets.{all_more}
use Rattle.bisimilarity.proofs.Refining.{meets-masks}
use Rattle.bisimilarity.proofs.refinement.met_by.Goals as goal

pub returns-then-not-looked : goal.returns-then-not-looked
unfolding implies
returns-then-not-looked c = rw c.if-not-looked.true

pub loop-u-init : goal.loop-u-init
unfolding for_all
loop-u-init c = (omega arith, refl)

pub loop-u-preserved : goal.loop-u-preserved
unfolding implies has
loop-u-preserved c = (omega arith, all_more _ _ c.loop-u.invariant.1 refl)

pub returns : goal.returns
unfolding implies
returns c =
    let a = c.args in
    let e : c.loop-u.u ≡ a.n = omega arith in
    rw c.if-not-looked.false (c.loop-u.invariant.1 ∙ rw e (meets-masks a.n a.rows.now a.from a.to c.requires.1))
