-- `case_reader::parts::root` meets its contract: the byte of the section that follows the nodes.
use Prim.Native.Nat.{◌*◌}
use mathlib.Core.Path.{ap, ◌∙◌}
use Rattle.case_model.specs.Bytes.{byte_at, section}
use Rattle.case_model.proofs.Lists.{length-list_of}
use Rattle.case_reader.proofs.parts.root.Goals as goal

pub returns : goal.returns
returns c =
    let f = c.args.file.now in
    record {
      is = c.byte_at.ensures.is ∙ ap (λ m. byte_at (section f 2) (3 * m)) (c.node_count.ensures.is ∙ length-list_of _ _);
      small = c.byte_at.ensures.small;
    }
