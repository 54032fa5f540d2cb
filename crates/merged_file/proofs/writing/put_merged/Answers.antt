-- `merged_file::writing::put_merged` meets its contract: the pairs, the labels in two parts, the steps, the rule and the start states, one after the other.
use native.Mathlib.Omega.{arith}
use Prim.Native.Nat.{ℕ}
use lib.ListN.{length-take}
use Rattle.case_model.proofs.Codec.{length-flat}
use Rattle.merged_file.proofs.MergedBytes.{fits, merged_written}
use Rattle.merged_file.proofs.writing.put_merged.Goals as goal

pub pairs-requires-clause-short : goal.pairs-requires-clause-short
pairs-requires-clause-short c =
    let m = c.requires.0 in
    let g = fits m in
    rw c.each.ensures (omega (arith, m.labels, m.steps, m.rule, m.starts))

pub slice_bounds-part-end : goal.slice_bounds-part-end
slice_bounds-part-end c =
    let m = c.requires.0 in
    let g = fits m in
    omega (arith, m.removed, c.section_offset-labels.ensures.is)

pub slice_bounds-part-end-2 : goal.slice_bounds-part-end-2
slice_bounds-part-end-2 c =
    let m = c.requires.0 in
    let g = fits m in
    omega (arith, m.removed, m.labels, c.section_offset-labels.ensures.is)

pub slice_bounds-part-end-3 : goal.slice_bounds-part-end-3
slice_bounds-part-end-3 c =
    let m = c.requires.0 in
    let g = fits m in
    omega (arith, m.rule, c.section_offset-rule.ensures.is)

-- what is written before the rule, and then before the start states
pub part-requires-3 : goal.part-requires-3
part-requires-3 c =
    let m = c.requires.0 in
    let g = fits m in
    let head = rw c.each.ensures at c.pairs.ensures in
    omega (
      arith,
      length-take {A = ℕ},
      length-flat,
      m.removed,
      m.labels,
      m.steps,
      head.laid,
      c.part.ensures.laid,
      c.part-2.ensures.laid,
      c.put_steps.ensures.laid,
    )

pub put_starts-requires : goal.put_starts-requires
put_starts-requires c =
    let m = c.requires.0 in
    let g = fits m in
    let head = rw c.each.ensures at c.pairs.ensures in
    omega (
      arith,
      length-take {A = ℕ},
      length-flat,
      m.removed,
      m.labels,
      m.steps,
      m.starts,
      head.laid,
      c.part.ensures.laid,
      c.part-2.ensures.laid,
      c.put_steps.ensures.laid,
      c.part-3.ensures.laid,
    )

pub returns : goal.returns
returns c =
    merged_written c.requires.0 _ _ _ _ _ c.section_offset-labels.ensures.is c.section_offset-rule.ensures.is
    (omega arith) (omega arith) (omega arith)
    (rw c.each.ensures at c.pairs.ensures) c.part.ensures c.part-2.ensures c.put_steps.ensures c.part-3.ensures c.put_starts.ensures
