-- `bisim::entries::lowest` meets its contract: `find` goes through the states below s.
use borrow.Author.Rules.{rules}
use mathlib.Core.Path.{◌∙◌}
use Rattle.flc.proofs.Chains.{first_below}
use Rattle.bisimilarity.specs.Relations.{related}
use Rattle.bisim.proofs.entries.lowest.Goals as goal

pub returns : goal.returns
unfolding related
returns c =
    let a = c.args in
    c.unwrap_or.ensures ∙ first_below _ c.find.result a.s (related a.rows.now a.s) c.find.ensures.ran (λ x b q k. search rules)
