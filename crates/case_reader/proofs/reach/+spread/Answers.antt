-- `case_reader::reach::spread` meets its contract, by recursion over the nodes with the number falling: each call is one node's turn.
use mathlib.Core.Path.{ap, sym, ◌∙◌}
use Rattle.case_model.specs.Kinds.{node_of}
use Rattle.case_model.specs.Case.{read, node_at}
use Rattle.case_reader.specs.NodeSets as sets
use Rattle.case_reader.proofs.Readers.{peel}
use Prim.Native.Nat.{◌-◌}
use Rattle.case_reader.proofs.reach.+spread.Goals as goal

pub returns-then-k-eq0 : goal.returns-then-k-eq0  -- spread
unfolding sets.spread
returns-then-k-eq0 t c = rw c.if-k-eq0.true

pub returns : goal.returns  -- spread
unfolding sets.spread node_at
returns t c =
    let a = c.args in
    let N = node_at (read a.file.now) in
    let j = a.k - 1 in
    let turn = c.with_named.ensures ∙ ap (λ x. sets.with_named a.set (node_of x) j) c.node.ensures.is in
    c.spread.ensures ∙ ap (sets.spread N j) turn ∙ sym (peel (λ k. sets.spread N k a.set) a.k c.if-k-eq0.false)
