-- `bisimilarity::graph::Graph::alike_rows` meets its contract. The invariant: the rows relate all bisimilar pairs and no unequal labels; as numbers they fall.
use borrow.Author.Rules.{rules}
use mathlib.Core.Path.{sym, ◌∙◌}
use Rattle.bisimilarity.proofs.Sets.{compared}
use Rattle.bisimilarity.proofs.Refining.{round_start, round_next, round_falls, round_ends}
use Rattle.bisimilarity.proofs.graph.Graph.alike_rows.Goals as goal

pub loop-next-init : goal.loop-next-init
loop-next-init c = round_start _ _ c.start-rows.ensures

pub returns-then-eq : goal.returns-then-eq
returns-then-eq c =
    let next = c.refined-next in
    let same = compared c.args.self.now.states c.loop-next.rows next.result c.args.self.now.few next.array_long (search rules) in
    round_ends _ _ _ c.loop-next.invariant next.ensures (same ∙ sym c.eq.ensures ∙ c.if-eq.true)

pub loop-next-smaller : goal.loop-next-smaller
loop-next-smaller c =
    let next = c.refined-next in
    let same = compared c.args.self.now.states c.loop-next.rows next.result c.args.self.now.few next.array_long (search rules) in
    round_falls _ _ _ c.loop-next.invariant next.ensures (same ∙ sym c.eq.ensures ∙ c.if-eq.false)

pub loop-next-preserved : goal.loop-next-preserved
loop-next-preserved c = round_next _ _ _ c.loop-next.invariant c.refined-next.ensures
