-- `case_file::entries::open` meets its contract: the part is the section where vetting answers, and empty where it refuses.
use native.Mathlib.Omega.{arith}
use native.Mathlib.Nat.{add-zero}
use mathlib.Core.Path.{refl, sym}
use lib.Seq.{length-take-le}
use Rattle.case_reader.proofs.Readers.{there}
use Rattle.case_file.proofs.Opening.{opens, cut, refuses}
use Rattle.case_file.proofs.entries.open.Goals as goal

pub slice_bounds-result-end : goal.slice_bounds-result-end
slice_bounds-result-end c =
    sym (length-take-le _ c.args.file.now (omega arith))

pub returns-in_default : goal.returns-in_default
returns-in_default c =
    let a = c.args in
    let empty = refuses a.file.now a.section c.in_default.field-0 c.in_default.is c.vet.ensures in
    record { bytes = empty.is; block = refl; place = rw (empty.at, add-zero) }

pub slice_bounds-result-count : goal.slice_bounds-result-count
slice_bounds-result-count c =
    let o = opens c.args.file.now c.args.section c.in-Ok.field-0 c.in-Ok.is c.vet.ensures in
    omega (arith, o, there o.number _ c.section_offset-start.ensures.is)

pub slice_bounds-result-start : goal.slice_bounds-result-start
slice_bounds-result-start c =
    let o = opens c.args.file.now c.args.section c.in-Ok.field-0 c.in-Ok.is c.vet.ensures in
    omega (arith, o, there o.number _ c.section_offset-start.ensures.is)

pub slice_bounds-result-end-2 : goal.slice_bounds-result-end-2
slice_bounds-result-end-2 c =
    let o = opens c.args.file.now c.args.section c.in-Ok.field-0 c.in-Ok.is c.vet.ensures in
    omega (arith, o, there o.number _ c.section_offset-start.ensures.is, there o.number _ c.section_size.ensures.is)

pub returns : goal.returns
returns c =
    let o = opens c.args.file.now c.args.section c.in-Ok.field-0 c.in-Ok.is c.vet.ensures in
    let start = there o.number _ c.section_offset-start.ensures.is in
    record {
      bytes = cut o start (omega (arith, there o.number _ c.section_size.ensures.is));
      block = refl;
      place = omega (arith, o.at, start);
    }
