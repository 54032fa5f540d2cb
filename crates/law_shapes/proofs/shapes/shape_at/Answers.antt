-- `law_shapes::shapes::shape_at` meets its contract: node j and the two nodes that it names.
use mathlib.Core.Path.{◌∙◌}
use Rattle.case_model.specs.Case.{read}
use Rattle.case_reader.specs.Read.{triple}
use Rattle.law_shapes.proofs.Laws.{at_node}
use Rattle.law_shapes.proofs.shapes.shape_at.Goals as goal

pub returns : goal.returns
returns c =
    let a = c.args in
    let n = c.node-n in
    let x = c.node in
    let y = c.node-2 in
    c.shape_of.ensures
    ∙ at_node (read a.file.now).nodes a.law a.j (triple n.result) (triple x.result) (triple y.result) n.ensures.is x.ensures.is y.ensures.is
