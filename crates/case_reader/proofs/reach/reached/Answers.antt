-- `case_reader::reach::reached` meets its contract: spreading from the root makes the set of what a valid rule's root reaches.
use Prim.Native.Nat.{suc}
use mathlib.Core.Path.{◌≡◌, ap, ap₂, sym, subst, ◌∙◌}
use native.Mathlib.Numerals.{add-one}
use Rattle.case_model.specs.Case.{read, node_at}
use Rattle.case_model.specs.Reach.{ReachSet}
use Rattle.case_reader.specs.NodeSets.{with_node, spread}
use Rattle.case_reader.proofs.Reaching.{reach_set}
use Rattle.case_reader.proofs.reach.reached.Goals as goal

pub returns-then-top-lt64 : goal.returns-then-top-lt64
returns-then-top-lt64 c = λ valid.
    let f = read c.args.file.now in
    let top = c.root-top.ensures.is in
    let first : c.with.result ≡ with_node 0 f.root = c.with.ensures ∙ ap (with_node 0) top in
    let turns = add-one c.root-top.result ∙ ap (λ k. suc k) top in
    subst (ReachSet f) (sym (c.spread.ensures ∙ ap₂ (spread (node_at f)) turns first)) (reach_set valid)
