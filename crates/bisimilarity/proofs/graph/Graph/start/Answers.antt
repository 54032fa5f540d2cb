-- `bisimilarity::graph::Graph::start` meets its contract: each state below the count has its row.
use borrow.Author.Rules.{rules}
use Prim.Native.Nat.{◌<◌}
use mathlib.Core.Path.{◌≡◌}
use native.Mathlib.Omega.{arith}
use Rattle.flc.specs.Sets.{set_of}
use Rattle.bisimilarity.specs.Graphs.{table_of}
use Rattle.bisimilarity.specs.Relations.{same_label}
use Rattle.bisimilarity.proofs.Made.{made}
use Rattle.bisimilarity.proofs.graph.Graph.start.Goals as goal

pub returns : goal.returns
returns c =
    let a = c.args in
    let n = a.self.now.states in
    let L = table_of a.self.now in
    let items = c.from_fn.ensures.items.each in
    record {
      row = λ s h.
          let few = c.args.self.now.few in
          made (λ x y. x < n → y ≡ set_of n (same_label L x)) (λ x y q k. search rules) _ 16 0 items s (omega arith) (omega (arith, h, few)) h;
    }
