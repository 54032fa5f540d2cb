-- `case_reader::parts::triple_at` meets its contract: three bytes of the section, or zeros past its last triple.
use borrow.Author.Rules.{rules}
use Rattle.case_model.specs.Case.{triples}
use mathlib.Core.Path.{ap, ◌∙◌}
use Rattle.case_reader.proofs.Readers.{past, triple-found}
use Prim.Native.Nat.{◌+◌, ◌*◌}
use Rattle.case_model.specs.Case.{triple_at}
use Rattle.case_reader.proofs.parts.triple_at.Goals as goal

pub returns-then-triple_count-i : goal.returns-then-triple_count-i
returns-then-triple_count-i c =
    let a = c.args in
    record {
      is = past (triples a.file.now a.section) (0, 0, 0) a.i c.triple_count.ensures.is c.if-triple_count-i.true;
      first = search rules;
      second = search rules;
      third = search rules;
    }

pub returns : goal.returns
returns c =
    let a = c.args in
    let b1 = c.byte.ensures in
    let b2 = c.byte-2.ensures in
    let b3 = c.byte-3.ensures in
    record {
      is = (λ z. (b1.is z, b2.is z, b3.is z))
          ∙ ap (λ o. triple_at a.file.now (o + 3 * a.i)) c.word.ensures.is
          ∙ triple-found a.file.now a.section a.i c.triple_count.ensures.is c.if-triple_count-i.false;
      first = b1.small;
      second = b2.small;
      third = b3.small;
    }
