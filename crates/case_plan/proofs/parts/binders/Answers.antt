-- `case_plan::parts::binders` meets its contract: the loop notes one node a turn.
use mathlib.Core.Path.{refl, sym, ◌∙◌}
use native.Mathlib.Omega.{arith}
use lib.ListN.{get_or}
use Rattle.case_reader.specs.Read.{triple}
use Rattle.case_plan.proofs.Housing.{binds_low, housed_same, housed_more}
use Rattle.case_plan.proofs.parts.binders.Goals as goal
use Rattle.case_plan.proofs.parts.binders.Goals.{then-is_binder, else-is_binder}

pub offset_bounds-binders-x : goal.offset_bounds-binders-x
offset_bounds-binders-x c =
    omega (
      arith,
      binds_low c.loop-j.invariant c.requires c.loop-j-test.true (triple (get_or c.args.nodes.now c.loop-j.j (0, 0, 0))) refl
          (sym c.is_binder.ensures ∙ c.if-is_binder.true),
    )

pub bounds-binders-x : goal.bounds-binders-x
bounds-binders-x c =
    binds_low c.loop-j.invariant c.requires c.loop-j-test.true (triple (get_or c.args.nodes.now c.loop-j.j (0, 0, 0))) refl
    (sym c.is_binder.ensures ∙ c.if-is_binder.true)

pub loop-j-preserved : goal.loop-j-preserved
loop-j-preserved c =
    let t = triple (get_or c.args.nodes.now c.loop-j.j (0, 0, 0)) in
    elim c.if-is_binder.branch [
      | then-is_binder w ↦
          rw w.binders-is (housed_more c.loop-j.invariant c.requires c.loop-j-test.true t refl (sym c.is_binder.ensures ∙ w.if-is_binder.true))
      | else-is_binder w ↦
          rw w.binders-is (housed_same c.loop-j.invariant c.requires c.loop-j-test.true t refl (sym c.is_binder.ensures ∙ w.if-is_binder.false))
    ]
