-- `hoidrul::hoidrul_open` meets its contract: the section's pair where vetting answers, and 0 where it refuses.
use mathlib.Core.Path.{refl}
use Rattle.case_reader.proofs.Readers.{there}
use Rattle.case_file.proofs.Opening.{opens, refuses}
use Rattle.hoidrul.proofs.hoidrul_open.Goals as goal

pub returns-in_default : goal.returns-in_default
returns-in_default c =
    let a = c.args in
    let empty = refuses a.file.now a.section c.in_default.field-0 c.in_default.is c.vet.ensures in
    rw (← empty.is, empty.at)

pub returns : goal.returns
returns c =
    let a = c.args in
    let o = opens a.file.now a.section c.in-Ok.field-0 c.in-Ok.is c.vet.ensures in
    rw (o.at, o.long, there o.number _ c.section_offset-offset.ensures.is, there o.number _ c.section_size-size.ensures.is) refl
