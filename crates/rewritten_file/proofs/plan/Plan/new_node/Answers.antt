-- `rewritten_file::plan::Plan::new_node` meets its contract: by the place of i: below node j, put in, or above.
use mathlib.Core.Path.{sym, ap, ◌∙◌}
use Rattle.case_model.specs.Rewriting.{renamed}
use Prim.Native.Nat.{◌-◌}
use native.Mathlib.Omega.{arith}
use Rattle.case_model.specs.Case.{at, read}
use Rattle.law_shapes.specs.Shapes.{named}
use Rattle.rewritten_file.proofs.Renewed.{node_low, node_placed, node_high}
use Rattle.rewritten_file.proofs.plan.Plan.new_node.Goals as goal

pub returns-then-i-self : goal.returns-then-i-self
returns-then-i-self c =
    let p = c.args.self in
    c.rename.ensures ∙ ap (renamed (named p.j p.shape)) c.node.ensures.is
    ∙ sym (node_low c.requires.0 c.args.i c.if-i-self.true)

pub returns-then-i-self-2 : goal.returns-then-i-self-2
returns-then-i-self-2 c =
    c.place.ensures ∙ sym (node_placed c.requires.0 c.args.i c.if-i-self.false (omega (arith, c.if-i-self-2.true, c.added.ensures)))

pub returns-else-i-self-2 : goal.returns-else-i-self-2
returns-else-i-self-2 c =
    let p = c.args.self in
    c.rename-else-i-self-2.ensures ∙ ap (renamed (named p.j p.shape)) (c.node-else-i-self-2.ensures.is ∙ ap (λ n. at (read c.args.file.now).nodes (c.args.i - n)) c.added-else-i-self-2.ensures.0)
    ∙ sym (node_high c.requires.0 c.args.i (omega (arith, c.if-i-self-2.false, c.added.ensures)))
