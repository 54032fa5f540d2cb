-- `case_plan::parts::labelled` meets its contract: each label adds its state to the sets of its propositions.
use mathlib.Core.Path.{refl, sym, ◌∙◌}
use native.Mathlib.Omega.{arith}
use Rattle.std.proofs.lemmas.List.{set-get_or}
use Rattle.flc.specs.Sets.{set_of}
use Rattle.case_model.proofs.Lists.{zeros}
use Rattle.case_plan.proofs.Labelling.{joined_in, joined_out}
use Rattle.case_plan.proofs.parts.labelled.Goals as goal
use Rattle.case_plan.proofs.parts.labelled.Goals.{then-has, else-has}

pub loop-s-init : goal.loop-s-init
unfolding set_of
loop-s-init c = record { long = refl; are = λ k h. zeros 8 k }

pub loop-i-preserved : goal.loop-i-preserved
loop-i-preserved c =
    elim c.if-has.branch [
      | then-has w ↦
          rw w.set-items-is (joined_in c.loop-i.invariant (omega arith) c.label-label.ensures.is (omega arith) (sym c.has.ensures ∙ w.if-has.true))
      | else-has w ↦
          rw (w.set-items-is ∙ set-get_or c.loop-i.set-items c.loop-i.i 0)
          (joined_out c.loop-i.invariant (omega arith) c.label-label.ensures.is (sym c.has.ensures ∙ w.if-has.false))
    ]
