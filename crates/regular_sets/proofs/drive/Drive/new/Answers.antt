-- `regular_sets::drive::Drive::new` makes a drive: what was read of the file is so.
use native.Mathlib.Omega.{arith}
use Rattle.regular_sets.proofs.FewSteps.{steps_few}
use Rattle.regular_sets.proofs.drive.Drive.new.Goals as goal

pub invariant_of-result : goal.invariant_of-result
invariant_of-result c = record {
  viewed = c.requires;
  counted = c.state_count.ensures.is;
  stepped = record {
    is = c.section_offset.ensures.is;
    small = c.section_offset.ensures.small;
    few = steps_few c.args.file.now (λ i. omega (arith, c.type_inv.file i));
    inside = c.requires.inside;
  };
}
