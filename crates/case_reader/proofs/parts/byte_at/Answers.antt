-- `case_reader::parts::byte_at` meets its contract: the byte of the section at a position, 0 past its end.
use borrow.Author.Rules.{rules}
use Prim.Native.Nat.{◌+◌}
use mathlib.Core.Path.{ap, ◌∙◌}
use Rattle.case_model.specs.Bytes.{section, byte_at}
use Rattle.case_reader.proofs.Readers.{past, found}
use Rattle.case_reader.proofs.parts.byte_at.Goals as goal

pub returns-then-byte_count-i : goal.returns-then-byte_count-i
returns-then-byte_count-i c =
    let a = c.args in
    record { is = past (section a.file.now a.k) 0 a.i c.byte_count.ensures.is c.if-byte_count-i.true; small = search rules }

pub returns : goal.returns
unfolding section
returns c =
    let a = c.args in
    record {
      is = c.byte.ensures.is ∙ ap (λ o. byte_at a.file.now (o + a.i)) c.word.ensures.is
          ∙ found _ _ 0 a.i c.byte_count.ensures.is c.if-byte_count-i.false;
      small = c.byte.ensures.small;
    }
