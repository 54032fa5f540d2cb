-- `regular_engine::recursion::refresh`, `compute` and `iterate` meet their contracts. What each step needs stands in Stepping and Rounds; here
-- the places of the code are tied to it. That the area keeps its length is part of every answer.
use Prim.Native.Nat.{ℕ, ◌-◌, ◌*◌, ◌^◌}
use mathlib.Core.Bool.{Bool}
use mathlib.Core.List.{List}
use mathlib.Core.Path.{◌≡◌, ap, ◌∙◌}
use native.Mathlib.Omega.{arith}
use Rattle.std.specs.Prelude.{Option}
use Rattle.flc.specs.Nodes.{bind}
use Rattle.case_model.specs.Kinds.{Triple}
use Rattle.case_plan.specs.declared.moves.Direction.{Direction}
use Rattle.case_plan.specs.Plans.{Plan, decoded}
use Rattle.case_plan.proofs.KnownNodes.{known, other_kind}
use Rattle.regular_model.specs.HeldSets.{held_at, Stored}
use Rattle.regular_engine.specs.Computing.{begins, Refreshable, RefreshedBy, Iterable}
use Rattle.regular_engine.proofs.Stepping.{Stated, stated, node_small, block_room, fillable, computed_plain, not_zero, refresh_none}
use Rattle.regular_engine.proofs.Stepping.{last_area, refresh_lower, Lowered, skip_out, skip_old, computable, one_more}
use Rattle.regular_engine.proofs.Rounds.{operands_low, Begun, turning_start, round_refreshable, binder_room, turning_next}
use Rattle.regular_engine.proofs.Rounds.{iterated_early, iterated_late}
use Rattle.regular_engine.proofs.recursion.+compute_iterate_refresh.Goals as goal
use Rattle.regular_engine.proofs.recursion.+compute_iterate_refresh.Goals.{refresh-else-u-act-via-then-u-act+else-u-old, refresh-else-u-act-via-else-u-act}

-- ---- compute
-- the node is no binder where the kind is another
pub compute-fill-requires : goal.compute-fill-requires
compute-fill-requires t c =
    let p = decoded c.args.rule.now.plan.now in
    fillable c.requires (other_kind p c.args.j c.node.ensures c.kind_of.result c.kind_of.ensures c.in_default.not-Binder)

pub compute-returns-in_default : goal.compute-returns-in_default
compute-returns-in_default t c =
    let p = decoded c.args.rule.now.plan.now in
    computed_plain c.requires (stated c.args.rule.now) _
    (other_kind p c.args.j c.node.ensures c.kind_of.result c.kind_of.ensures c.in_default.not-Binder)
    c.fill.ensures

pub compute-iterate-requires : goal.compute-iterate-requires
compute-iterate-requires t c =
    let e = c.node.ensures in
    let binds = known (decoded c.args.rule.now.plan.now) c.args.j e c.kind_of.ensures c.in-Binder.is
    ∙ ap (λ (t : Triple). bind c.in-Binder.least t.1 t.2) e in
    (omega (arith, c.decreases), record { computable = c.requires; binds = binds })

-- ---- iterate
-- what stands where the rounds begin
begun : {f : List ℕ} {p : Plan} {w u : List ℕ} {j act : ℕ} (grown : Option Direction) {least : Bool} {x : Triple} {m : ℕ}
    → Stated f p → Iterable f p w j act least → x ≡ p.nodes j → m ≡ 2 ^ x.1
    → Stored w u (64 * j) (begins least grown p.states (held_at w (64 * j))) → Begun f p w u j act grown least x m
begun grown t I e v s = record { stated = t; iterable = I; node = e; mask = v; stored = s }

pub iterate-variable-requires : goal.iterate-variable-requires
iterate-variable-requires t c = (operands_low c.requires c.node-x.ensures).0

pub iterate-begin-requires : goal.iterate-begin-requires
iterate-begin-requires t c =
    let T = stated c.args.rule.now in (omega (arith, T.states, T.few), block_room c.requires.computable.area)

pub iterate-loop-init : goal.iterate-loop-init
iterate-loop-init t c =
    turning_start (begun _ (stated c.args.rule.now) c.requires c.node-x.ensures c.variable.ensures c.begin.ensures)

pub iterate-refresh-requires : goal.iterate-refresh-requires
iterate-refresh-requires t c =
    let B = begun _ (stated c.args.rule.now) c.requires c.node-x.ensures c.variable.ensures c.begin.ensures in
    (omega (arith, c.decreases), round_refreshable B c.loop.invariant)

pub iterate-overflow_mul-x : goal.iterate-overflow_mul-x
iterate-overflow_mul-x t c =
    omega (arith, node_small c.requires.computable.area, (operands_low c.requires c.node-x.ensures).1)

pub iterate-advance-requires : goal.iterate-advance-requires
iterate-advance-requires t c =
    let B = begun _ (stated c.args.rule.now) c.requires c.node-x.ensures c.variable.ensures c.begin.ensures in
    (omega (arith, (operands_low c.requires c.node-x.ensures).1), binder_room B c.loop.invariant c.refresh.ensures)

pub iterate-returns-then-not-advance : goal.iterate-returns-then-not-advance
iterate-returns-then-not-advance t c =
    let B = begun _ (stated c.args.rule.now) c.requires c.node-x.ensures c.variable.ensures c.begin.ensures in
    iterated_early B c.loop.invariant c.refresh.ensures c.advance.ensures c.if-not-advance.true

pub iterate-loop-preserved : goal.iterate-loop-preserved
iterate-loop-preserved t c =
    let B = begun _ (stated c.args.rule.now) c.requires c.node-x.ensures c.variable.ensures c.begin.ensures in
    rw c.of.ensures (turning_next B c.loop.invariant c.refresh.ensures c.advance.ensures)

pub iterate-returns : goal.iterate-returns
iterate-returns t c =
    let B = begun _ (stated c.args.rule.now) c.requires c.node-x.ensures c.variable.ensures c.begin.ensures in
    iterated_late B c.loop.invariant (omega (arith, c.loop-test.false))

-- ---- refresh
-- what stands where the lower nodes are computed
lowered : {f : List ℕ} {p : Plan} {w y : List ℕ} {k old act : ℕ} {grown : Option Direction} {u : ℕ}
    → Refreshable f p w k old act → (k ≡ 0 → ⊥) → RefreshedBy f p w y (k - 1) old act grown → u ≡ p.scopes (k - 1)
    → Lowered f p w y k old act grown u
lowered R n l e = record { refreshable = R; some = n; lower = l; scope = e }

pub refresh-returns-then-k-eq0 : goal.refresh-returns-then-k-eq0
refresh-returns-then-k-eq0 t c = refresh_none c.args.old c.args.act _ c.requires c.if-k-eq0.true

pub refresh-refresh-requires : goal.refresh-refresh-requires
refresh-refresh-requires t c =
    let some = c.if-k-eq0.false in
    (omega (arith, c.decreases, not_zero c.args.k some), refresh_lower c.requires some)

pub refresh-scope-u-requires : goal.refresh-scope-u-requires
refresh-scope-u-requires t c = node_small (last_area c.requires c.if-k-eq0.false)

pub refresh-compute-requires : goal.refresh-compute-requires
refresh-compute-requires t c =
    let L = lowered c.requires c.if-k-eq0.false c.refresh.ensures c.scope-u.ensures in
    (omega (arith, c.decreases, not_zero c.args.k c.if-k-eq0.false), computable L c.if-u-act.true)

pub refresh-returns-then-u-old : goal.refresh-returns-then-u-old
refresh-returns-then-u-old t c =
    one_more (lowered c.requires c.if-k-eq0.false c.refresh.ensures c.scope-u.ensures) c.if-u-act.true c.compute.ensures

pub refresh-returns-else-u-act : goal.refresh-returns-else-u-act
refresh-returns-else-u-act t c =
    let L = lowered c.requires c.if-k-eq0.false c.refresh.ensures c.scope-u.ensures in
    elim c.else-u-act.branch [
      | refresh-else-u-act-via-then-u-act+else-u-old w ↦ skip_old L w.if-u-old.false
      | refresh-else-u-act-via-else-u-act w ↦ skip_out L w.if-u-act.false
    ]
