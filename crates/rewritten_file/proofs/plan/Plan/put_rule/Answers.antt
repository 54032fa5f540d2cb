-- `rewritten_file::plan::Plan::put_rule` meets its contract: the root after the nodes.
use Prim.Native.Nat.{ℕ}
use mathlib.Core.List.{List, [], ◌∷◌}
use mathlib.Core.Path.{◌≡◌, ap, ◌∙◌}
use native.Mathlib.Omega.{arith}
use Rattle.case_model.specs.Case.{read}
use Rattle.case_model.proofs.Codec.{length-flat}
use Rattle.case_writer.proofs.Runs.{writes_after, writes_as}
use Rattle.law_shapes.specs.Shapes.{named}
use Rattle.rewritten_file.specs.declared.plan.Plan.{Plan}
use Rattle.rewritten_file.specs.Plans.{Planned, renewed}
use Rattle.rewritten_file.proofs.Renewed.{root_small, new_root}
use Rattle.rewritten_file.proofs.plan.Plan.put_rule.Goals as goal

-- the byte behind the nodes is the new root
rooted : {f : List ℕ} {p : Plan} → Planned f p → {n r : ℕ} → n ≡ named p.j p.shape r → r ≡ (read f).root → n ≡ (renewed f p).root
rooted {p = p} P {r = r} e q = ◌∙◌ {b = named p.j p.shape r} e (new_root P r q)

pub overflow_cast-name : goal.overflow_cast-name
overflow_cast-name c =
    let e = rooted c.requires.0 c.name.ensures c.root.ensures.is in
    omega (arith, e, root_small c.requires.0)

pub byte-requires : goal.byte-requires
byte-requires c =
    let nodes = c.put_nodes.ensures.laid in
    let n = length-flat (renewed c.args.file.now c.args.self).nodes in
    omega (arith, c.requires.0.nodes, c.requires.1, nodes.ends, nodes.long)

pub returns : goal.returns
returns c =
    writes_after c.put_nodes.ensures (writes_as (ap (λ x. x ∷ []) (rooted c.requires.0 c.name.ensures c.root.ensures.is)) c.byte.ensures)
