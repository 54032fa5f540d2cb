-- `regular_sets::modal::by_action` meets its contract: the group has one action.
use mathlib.Core.Path.{ap, ◌∙◌}
use native.Mathlib.Omega.{arith}
use Rattle.flc.specs.Sets.{has}
use Rattle.case_reader.proofs.Knowing.{shifted}
use Rattle.regular_sets.proofs.Modalities.{one_spans}
use Rattle.regular_sets.proofs.modal.by_action.Goals as goal

pub invariant_of-result : goal.invariant_of-result
invariant_of-result c =
    let a = c.args.a in
    let e = shifted a c.requires in
    record {
      low = λ b h. ap (λ g. has g b) e ∙ one_spans a b (λ q. omega arith);
      high = λ b h k. ap (λ g. has g b) e ∙ one_spans a b (λ q. omega arith);
      few = omega (arith, c.requires);
    }
