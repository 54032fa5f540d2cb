-- `bisimilarity::graph::Graph::met` meets its contract: the steps by each action are tested.
use borrow.Author.Rules.{rules}
use mathlib.Core.Bool.{Bool}
use mathlib.Core.Path.{◌∙◌}
use Prim.Native.Nat.{ℕ, ◌+◌, ◌*◌}
use lib.ListN.{get_or}
use Rattle.flc.specs.Sets.{implies, has}
use Rattle.flc.specs.Formula.{actions}
use Rattle.flc.specs.Bisimulation.{met}
use Rattle.flc.proofs.Chains.{all_below}
use Rattle.bisimilarity.specs.Relations.{related, meets}
use Rattle.bisimilarity.proofs.Sets.{all_same}
use Rattle.bisimilarity.proofs.Refining.{met-masks}
use Rattle.bisimilarity.proofs.graph.Graph.met.Goals as goal

pub returns : goal.returns
unfolding met meets
returns c =
    let a = c.args in
    let g = a.self.now in
    let R = related a.rows.now in
    let next : ℕ → ℕ → ℕ → Bool = λ s b. has (get_or g.successors (8 * s + b) 0) in
    all_below c.all.result actions (λ b. implies (has g.acts b) (meets g.states R (next a.s b) (next a.t b))) c.all.ensures.ran (λ x b q k. search rules)
    ∙ all_same actions _ _ (met-masks g R a.s a.t)
