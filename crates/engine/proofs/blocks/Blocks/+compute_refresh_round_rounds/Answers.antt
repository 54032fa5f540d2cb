-- `engine::blocks::Blocks::refresh`, `compute`, `rounds` and `round` meet their contracts. What each step needs stands in Refreshing, Settling, Iterating and
-- Turns; here the places of the code are tied to it.
use Prim.Native.Nat.{suc}
use mathlib.Core.Path.{◌≡◌, refl, sym, ap, ◌∙◌, subst}
use native.Mathlib.Omega.{arith}
use lib.Bits.{bit_or}
use Rattle.case_plan.specs.Plans.{decoded}
use Rattle.case_plan.proofs.KnownNodes.{known, other_kind}
use Rattle.engine.specs.declared.refresh.Binder.{Binder}
use Rattle.engine.specs.Computing.{Refreshable, Refreshed, Iterable, Iterated}
use Rattle.engine.proofs.Refreshing.{refresh_lower, skip_out, skip_old, computable, one_more}
use Rattle.engine.proofs.Refreshing.{fillable, computed_plain}
use Rattle.engine.proofs.Turns.{binds_low, binder_here, body_under, round_refreshable, rounded}
use Rattle.engine.proofs.Iterating.{turning_start, turning_roundable, turning_next, iterated_still, iterated_most}
use Rattle.engine.proofs.Settling.{iterable, computed_binder}
use Rattle.engine.proofs.blocks.Blocks.+compute_refresh_round_rounds.Goals as goal
use Rattle.engine.proofs.blocks.Blocks.+compute_refresh_round_rounds.Goals.{refresh-else-scope-act-via-then-scope-act+else-scope-old}
use Rattle.engine.proofs.blocks.Blocks.+compute_refresh_round_rounds.Goals.{refresh-else-scope-act-via-else-scope-act}

-- ---- compute
pub compute-fill-requires : goal.compute-fill-requires
compute-fill-requires t c =
    fillable c.requires (other_kind (decoded c.args.self.now.plan.now) c.args.j c.node-x.ensures c.kind_of.result c.kind_of.ensures c.in_default.not-Binder)

pub compute-returns-in_default-clause-is : goal.compute-returns-in_default-clause-is
compute-returns-in_default-clause-is t c =
    computed_plain c.requires
    (other_kind (decoded c.args.self.now.plan.now) c.args.j c.node-x.ensures c.kind_of.result c.kind_of.ensures c.in_default.not-Binder) c.fill.ensures.is

pub compute-rounds-requires : goal.compute-rounds-requires
compute-rounds-requires t c =
    let x = c.node-x.result in
    let B : Binder = record { node = c.args.j; variable = x.1; body = x.2 } in
    let is = known (decoded c.args.self.now.plan.now) c.args.j c.node-x.ensures c.kind_of.ensures c.in-Binder.is in (
      omega (arith, c.decreases),
      rw c.begin.ensures.plan (subst (Iterable (decoded c.args.self.now.plan.now) c.begin.new.self.work.now B c.args.act) (sym c.of.ensures)
          (iterable B c.in-Binder.least c.requires is c.begin.ensures.is)),
    )

pub compute-returns-clause-is : goal.compute-returns-clause-is
compute-returns-clause-is t c =
    let x = c.node-x.result in
    let B : Binder = record { node = c.args.j; variable = x.1; body = x.2 } in
    let is = known (decoded c.args.self.now.plan.now) c.args.j c.node-x.ensures c.kind_of.ensures c.in-Binder.is in
    computed_binder B c.in-Binder.least c.requires is c.begin.ensures.is (omega (arith, c.requires.ready.sound.limit))
    (rw c.begin.ensures.plan at c.rounds.ensures.is)

-- ---- refresh
pub refresh-refresh-requires : goal.refresh-refresh-requires
refresh-refresh-requires t c =
    let e : c.args.k ≡ suc c.in-Some.j = omega (arith, c.in-Some.ensures) in
    (omega (arith, c.decreases, e), refresh_lower c.in-Some.j c.requires e)

pub refresh-compute-requires : goal.refresh-compute-requires
refresh-compute-requires t c =
    let e : c.args.k ≡ suc c.in-Some.j = omega (arith, c.in-Some.ensures) in
    let fits = computable c.in-Some.j c.requires e c.refresh.ensures.is (ap (λ u. bit_or u c.args.act) (sym c.scope-scope.ensures) ∙ c.if-scope-act.true) in
    (omega (arith, c.decreases, e), rw c.refresh.ensures.plan fits)

pub refresh-returns-then-scope-old-clause-is : goal.refresh-returns-then-scope-old-clause-is
refresh-returns-then-scope-old-clause-is t c =
    let e : c.args.k ≡ suc c.in-Some.j = omega (arith, c.in-Some.ensures) in
    let same = c.scope-scope.ensures in
    one_more c.in-Some.j c.requires e c.refresh.ensures.is (ap (λ u. bit_or u c.args.act) (sym same) ∙ c.if-scope-act.true)
    (λ z. c.if-scope-old.true (ap (λ u. bit_or u c.args.old) same ∙ z)) (rw c.refresh.ensures.plan at c.compute.ensures.is)

pub refresh-returns-else-scope-act-clause-is : goal.refresh-returns-else-scope-act-clause-is
refresh-returns-else-scope-act-clause-is t c =
    let e : c.args.k ≡ suc c.in-Some.j = omega (arith, c.in-Some.ensures) in
    let same = c.scope-scope.ensures in
    let met = c.refresh.ensures.is in
    elim c.else-scope-act.branch [
      | refresh-else-scope-act-via-then-scope-act+else-scope-old w ↦
          skip_old c.in-Some.j c.requires e met (ap (λ u. bit_or u c.args.old) (sym same) ∙ w.if-scope-old.false)
      | refresh-else-scope-act-via-else-scope-act w ↦
          skip_out c.in-Some.j c.requires e met (λ z. w.if-scope-act.false (ap (λ u. bit_or u c.args.act) same ∙ z))
    ]

-- ---- round
pub round-variable-requires : goal.round-variable-requires
round-variable-requires t c = (binds_low c.requires.binds).0

pub round-refresh-requires : goal.round-refresh-requires
round-refresh-requires t c =
    let x = c.args.x in (
      omega (arith, c.decreases),
      subst (λ m. Refreshable (decoded c.args.self.now.plan.now) c.args.self.now.work.now x.node c.args.act (bit_or c.args.act m) c.args.moved)
          (sym c.variable.ensures) (round_refreshable c.requires),
    )

pub round-overflow_mul-x : goal.round-overflow_mul-x
round-overflow_mul-x t c =
    let B = c.requires.binds in
    omega (arith, body_under B, binder_here B, c.well_formed)

pub round-advance-requires : goal.round-advance-requires
round-advance-requires t c =
    let B = c.requires.binds in
    (body_under B, omega (arith, binder_here B, c.refresh.ensures.is.kept.long))

pub round-returns-clause-is : goal.round-returns-clause-is
round-returns-clause-is t c =
    let x = c.args.x in
    rounded c.requires
    (subst (λ m. Refreshed (decoded c.args.self.now.plan.now) c.args.self.now.work.now c.refresh.new.self.work.now x.node c.args.act (bit_or c.args.act m))
    c.variable.ensures c.refresh.ensures.is)
    c.advance.ensures

-- ---- rounds
pub rounds-loop-r-init : goal.rounds-loop-r-init
rounds-loop-r-init t c = record { turning = turning_start c.args.most c.requires; stays = (refl, refl) }

pub rounds-round-changed-requires : goal.rounds-round-changed-requires
rounds-round-changed-requires t c =
    let I = c.loop-r.invariant in
    let fits = turning_roundable c.args.most c.requires I.turning in
    (omega (arith, c.decreases), rw I.stays.0 fits)

pub rounds-returns-then-not-changed-clause-is : goal.rounds-returns-then-not-changed-clause-is
rounds-returns-then-not-changed-clause-is t c =
    let I = c.loop-r.invariant in
    iterated_still c.args.most c.requires I.turning (rw I.stays.0 at c.round-changed.ensures.is) c.if-not-changed.true

pub rounds-loop-r-preserved : goal.rounds-loop-r-preserved
rounds-loop-r-preserved t c =
    let I = c.loop-r.invariant in
    let R = rw I.stays.0 at c.round-changed.ensures.is in
    record {
      turning = turning_next c.args.most c.requires I.turning R (omega (arith, c.loop-r-test.true)) c.if-not-changed.false;
      stays = (c.round-changed.ensures.plan ∙ I.stays.0, c.round-changed.ensures.same_reference ∙ I.stays.1);
    }

pub rounds-returns-clause-is : goal.rounds-returns-clause-is
rounds-returns-clause-is t c =
    let p = decoded c.args.self.now.plan.now in
    let I = c.loop-r.invariant.turning in
    let all : c.loop-r.r ≡ c.args.most = omega (arith, I.few) in
    subst (Iterated p c.args.self.now.work.now c.loop-r.self.work.now c.args.x c.args.act c.args.most) all
    (iterated_most c.args.most c.requires I (omega (arith, c.loop-r-test.false)))
