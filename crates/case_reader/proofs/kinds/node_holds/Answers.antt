-- `case_reader::kinds::node_holds` meets its contract: each line of the code is that of a kind of the table, and tried only if those before it did not fit.
use mathlib.Core.Bool.{◌||◌}
use mathlib.Core.Logic.{inl, inr}
use mathlib.Core.Path.{◌≡◌, refl, ◌∙◌}
use Rattle.flc.specs.Sets.{both, either, for_some}
use Rattle.case_model.specs.Kinds.{kinds, kind_at}
use Rattle.case_reader.specs.Read.{triple}
use Rattle.case_reader.proofs.Productions.{line_fits, grammar_order, fitted, missed, tried}
use Rattle.case_reader.proofs.kinds.node_holds.Reads as reads
use Rattle.case_reader.proofs.kinds.node_holds.Lts as lts
use Rattle.case_reader.proofs.kinds.node_holds.Goals as goal
use Rattle.case_reader.proofs.kinds.node_holds.Goals.{then-kind-a, else-kind-a, then-kind-a-2, else-kind-a-2, then-kind-a-3, else-kind-a-3}
use Rattle.case_reader.proofs.kinds.node_holds.Goals.{then-kind-a-4, else-kind-a-4, then-kind-a-5, else-kind-a-5, then-kind-a-6, else-kind-a-6}
use Rattle.case_reader.proofs.kinds.node_holds.Goals.{then-kind-a-7, else-kind-a-7, then-kind-a-8, else-kind-a-8, then-kind-a-9, else-kind-a-9}
use Rattle.case_reader.proofs.kinds.node_holds.Goals.{then-kind-a-10, else-kind-a-10, then-kind-a-11, else-kind-a-11, then-kind-a-12, else-kind-a-12}
use Rattle.case_reader.proofs.kinds.node_holds.Goals.{then-kind-a-13, else-kind-a-13}

-- whether one of the first fourteen lines fits, where they have been tried
first_fourteen : (c : lts.Joined13 reads.Pre reads.Post)
    → let f = line_fits c.args.j (triple c.args.t) in
    c.if-kind-a-13.value ≡ (for_some 10 f || f 11 || f 12 || f 10 || f 13)
unfolding kind_at kinds both either for_some
first_fourteen c =
    let f = line_fits c.args.j (triple c.args.t) in
    let h1 = tried (f 1) refl (elim c.if-kind-a.branch [
      | then-kind-a w ↦ inl (w.if-kind-a.true, w.value-is)
      | else-kind-a w ↦ inr (w.if-kind-a.false, w.value-is)
    ]) (λ w. w) (λ w. w) in
    let h2 = tried (f 2) h1 (elim c.if-kind-a-2.branch [
      | then-kind-a-2 w ↦ inl (w.if-kind-a-2.true, w.value-is)
      | else-kind-a-2 w ↦ inr (w.if-kind-a-2.false, w.value-is)
    ]) (λ w. w) (λ w. w) in
    let h3 = tried (f 3) h2 (elim c.if-kind-a-3.branch [
      | then-kind-a-3 w ↦ inl (w.if-kind-a-3.true, w.value-is)
      | else-kind-a-3 w ↦ inr (w.if-kind-a-3.false, w.value-is)
    ]) (λ w. w) (λ w. w) in
    let h4 = tried (f 4) h3 (elim c.if-kind-a-4.branch [
      | then-kind-a-4 w ↦ inl (w.if-kind-a-4.true, w.value-is)
      | else-kind-a-4 w ↦ inr (w.if-kind-a-4.false, w.value-is)
    ]) (λ w. w) (λ w. w) in
    let h5 = tried (f 5) h4 (elim c.if-kind-a-5.branch [
      | then-kind-a-5 w ↦ inl (w.if-kind-a-5.true, w.value-is)
      | else-kind-a-5 w ↦ inr (w.if-kind-a-5.false, w.value-is)
    ]) (λ w. w) (λ w. w) in
    let h6 = tried (f 6) h5 (elim c.if-kind-a-6.branch [
      | then-kind-a-6 w ↦ inl (w.if-kind-a-6.true, w.value-is)
      | else-kind-a-6 w ↦ inr (w.if-kind-a-6.false, w.value-is)
    ]) (λ w. w) (λ w. w) in
    let h7 = tried (f 7) h6 (elim c.if-kind-a-7.branch [
      | then-kind-a-7 w ↦ inl (w.if-kind-a-7.true, w.value-is)
      | else-kind-a-7 w ↦ inr (w.if-kind-a-7.false, w.value-is)
    ]) (λ w. w) (λ w. w) in
    let h8 = tried (f 8) h7 (elim c.if-kind-a-8.branch [
      | then-kind-a-8 w ↦ inl (w.if-kind-a-8.true, w.value-is)
      | else-kind-a-8 w ↦ inr (w.if-kind-a-8.false, w.value-is)
    ]) (λ w. w) (λ w. w) in
    let h9 = tried (f 9) h8 (elim c.if-kind-a-9.branch [
      | then-kind-a-9 w ↦ inl (w.if-kind-a-9.true, w.value-is)
      | else-kind-a-9 w ↦ inr (w.if-kind-a-9.false, w.value-is)
    ]) (λ w. w) (λ w. w) in
    let h10 = tried (f 11) h9 (elim c.if-kind-a-10.branch [
      | then-kind-a-10 w ↦ inl (w.if-kind-a-10.true, w.value-is)
      | else-kind-a-10 w ↦ inr (w.if-kind-a-10.false, w.value-is)
    ]) (λ w. w) (λ w. w) in
    let h11 = tried (f 12) h10 (elim c.if-kind-a-11.branch [
      | then-kind-a-11 w ↦ inl (w.if-kind-a-11.true, w.value-is)
      | else-kind-a-11 w ↦ inr (w.if-kind-a-11.false, w.value-is)
    ]) (λ w. w) (λ w. w) in
    let h12 = tried (f 10) h11 (elim c.if-kind-a-12.branch [
      | then-kind-a-12 w ↦ inl (w.if-kind-a-12.true, w.value-is)
      | else-kind-a-12 w ↦ inr (w.if-kind-a-12.false, w.value-is)
    ]) (λ w. w) (λ w. w) in
    tried (f 13) h12 (elim c.if-kind-a-13.branch [
      | then-kind-a-13 w ↦ inl (w.if-kind-a-13.true, w.value-is)
      | else-kind-a-13 w ↦ inr (w.if-kind-a-13.false, w.value-is)
    ]) (λ w. w) (λ w. w)

pub returns-then-kind-a-14 : goal.returns-then-kind-a-14
returns-then-kind-a-14 c =
    fitted _ (first_fourteen c.before) c.if-kind-a-14.true ∙ grammar_order c.args.j (triple c.args.t)

pub returns-else-kind-a-14 : goal.returns-else-kind-a-14
unfolding kind_at kinds both
returns-else-kind-a-14 c =
    missed _ (first_fourteen c.before) c.if-kind-a-14.false ∙ grammar_order c.args.j (triple c.args.t)
