-- `vocabulary::looking::looked` meets its contract. The loop's invariant: what the reached nodes below j look at is gathered.
use mathlib.Core.Path.{◌≡◌, refl, sym, ap, ◌∙◌}
use native.Mathlib.Numerals.{add-one}
use native.Mathlib.Omega.{arith}
use lib.ListN.{length}
use Rattle.flc.specs.Sets.{has}
use Rattle.flc.specs.Vocabulary.{union}
use Rattle.case_model.specs.Kinds.{node_of}
use Rattle.case_model.specs.Case.{read, node_at}
use Rattle.case_model.specs.Looking.{own}
use Rattle.vocabulary.specs.Gathering.{vocabulary_of, gathered}
use Rattle.vocabulary.proofs.Gathered.{gathered-looked}
use Rattle.vocabulary.proofs.looking.looked.Goals as goal
use Rattle.vocabulary.proofs.looking.looked.Goals.{then-has, else-has}

pub loop-j-init : goal.loop-j-init
unfolding gathered
loop-j-init c = refl

pub loop-j-preserved : goal.loop-j-preserved
unfolding gathered node_at
loop-j-preserved c =
    let gathered_so_far = c.loop-j.invariant in
    let counts : has c.reached-nodes.result c.loop-j.j ≡ c.has.result = sym c.has.ensures in
    rw (add-one c.loop-j.j, counts) (elim c.if-has.branch [
      | then-has w ↦ rw w.if-has.true
          (ap vocabulary_of w.all-is ∙ w.union-all.ensures ∙ (λ z. union (gathered_so_far z) ((w.own.ensures ∙ ap (λ x. own (node_of x)) w.node.ensures.is) z)))
      | else-has w ↦ rw w.if-has.false (ap vocabulary_of w.all-is ∙ gathered_so_far)
    ])

pub returns : goal.returns
returns c =
    let valid = c.requires in
    let e : c.loop-j.j ≡ length (read c.args.file.now).nodes = omega (arith, c.loop-j.auto.j-end, c.node_count-j-end.ensures.is) in
    c.loop-j.invariant ∙ rw e (gathered-looked valid (c.reached-nodes.ensures valid))
