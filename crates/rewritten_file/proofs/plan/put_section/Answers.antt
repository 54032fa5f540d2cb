-- `rewritten_file::plan::put_section` meets its contract: the part of the file that begins where the section does and is as long.
use Prim.Native.Nat.{ℕ}
use native.Mathlib.Omega.{arith}
use lib.ListN.{length-take}
use Rattle.case_model.specs.Bytes.{offset, size}
use Rattle.case_model.specs.Limits.{standard}
use Rattle.case_model.proofs.Sections.{section-length, within}
use Rattle.case_model.proofs.Valid.{accepted_pairs}
use Rattle.case_reader.proofs.Readers.{there}
use Rattle.case_writer.proofs.Runs.{writes_as}
use Rattle.rewritten_file.proofs.NewFile.{section_slice}
use Rattle.rewritten_file.proofs.plan.put_section.Goals as goal

pub slice_bounds-part-end : goal.slice_bounds-part-end
slice_bounds-part-end c =
    let f = c.args.file.now in
    let o = there c.requires.1 (offset f c.args.k) c.section_offset-start.ensures.is in
    let n = there c.requires.1 (size f c.args.k) c.section_size.ensures.is in
    omega (arith, within standard f (accepted_pairs standard f c.requires.0) c.args.k c.requires.1)

pub part-requires : goal.part-requires
part-requires c =
    let f = c.args.file.now in
    let n = there c.requires.1 (size f c.args.k) c.section_size.ensures.is in
    omega (arith, length-take {A = ℕ}, section-length f c.args.k)

pub returns : goal.returns
returns c =
    let f = c.args.file.now in
    let o = there c.requires.1 (offset f c.args.k) c.section_offset-start.ensures.is in
    let n = there c.requires.1 (size f c.args.k) c.section_size.ensures.is in
    writes_as (section_slice f c.requires.0 c.args.k c.requires.1 c.section_offset-start.result _ o (omega (arith, n))) c.part.ensures
