-- `regular_sets::places::step_index` meets its contract: the entries below k are there, and the search for the next goes on from the last.
use Prim.Native.Nat.{◌+◌, ◌≤◌}
use mathlib.Core.Path.{◌≡◌, sym, ap, ◌∙◌}
use native.Mathlib.Omega.{arith}
use lib.ListN.{length}
use native.Mathlib.Numerals.{add-one}
use Rattle.flc.proofs.Tests.{first_zero}
use Rattle.case_model.specs.Case.{read}
use Rattle.case_model.proofs.Filling.{front_none, front_more, front_at}
use Rattle.regular_model.specs.StepGroups.{group_at}
use Rattle.regular_model.proofs.StepGroups.{group_after, group_within}
use Rattle.regular_sets.proofs.FewSteps.{steps_few}
use Rattle.regular_sets.proofs.places.step_index.Invariants.{group_from}
use Rattle.regular_sets.proofs.places.step_index.Goals as goal

pub loop-k-init : goal.loop-k-init
loop-k-init c = (omega arith, front_none _ _, unfold group_at in sym (first_zero _ _))

pub next-at-requires : goal.next-at-requires
next-at-requires c = c.loop-k.invariant.0

-- what the search found is entry k
found : (c : goal.After-next-at) → c.next-at.result ≡ group_at (read c.args.file.now).steps c.loop-k.k
found c = c.next-at.ensures ∙ c.loop-k.invariant.2

within : (c : goal.After-next-at) → c.next-at.result ≤ length (read c.args.file.now).steps
within c = omega (arith, found c, group_within c.requires.0 c.loop-k.k)

pub overflow_cast-index : goal.overflow_cast-index
overflow_cast-index c =
    omega (arith, within c, steps_few c.args.file.now (λ i. omega (arith, c.type_inv.file i)))

pub loop-k-preserved : goal.loop-k-preserved
loop-k-preserved c =
    let k = c.loop-k.k in
    let l = (read c.args.file.now).steps in
    let next = ap (group_from l (group_at l k)) (add-one k) ∙ sym (group_after c.requires.0 k) ∙ ap (group_at l) (sym (add-one k)) in (
      within c,
      front_more c.loop-k.invariant.1 (omega (arith, c.requires.0.few, c.state_count.ensures.is, c.loop-k-test.true))
          (found c),
      ap (λ at. group_from l at (k + 1)) (found c) ∙ next,
    )

pub returns : goal.returns
returns c =
    let all = c.loop-k.invariant.1 in
    record {
      table = c.requires.0;
      inside = c.requires.1;
      places = λ k h. front_at all k (omega (arith, c.loop-k-test.false, c.state_count.ensures.is));
      long = all.long;
    }
