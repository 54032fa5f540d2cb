-- `case_reader::parts::byte_count` meets its contract: a section has as many bytes as its pair says.
use mathlib.Core.Path.{sym, ◌∙◌}
use Rattle.case_model.specs.Bytes.{section}
use Rattle.case_model.proofs.Lists.{length-list_of}
use Rattle.case_reader.proofs.parts.byte_count.Goals as goal

pub returns : goal.returns
unfolding section
returns c = record { is = c.word.ensures.is ∙ sym (length-list_of _ _); small = c.word.ensures.small }
