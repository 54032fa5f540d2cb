-- `tables::modal::modality` meets its contract: each turn doubles the filled part of the table, upwards for some step and downwards for all.
use Prim.Native.Nat.{ℕ, ◌+◌, ◌-◌, ◌≤◌}
use mathlib.Core.Bool.{Bool}
use mathlib.Core.List.{List}
use mathlib.Core.Path.{◌≡◌, subst}
use native.Mathlib.Omega.{arith}
use lib.ListN.{length}
use Rattle.case_model.proofs.Filling.{filled_over}
use Rattle.case_plan.specs.Plans.{Plan, Sized, decoded}
use Rattle.tables.specs.Tables.{edge}
use Rattle.tables.proofs.Sizes.{size_some}
use Rattle.tables.proofs.Modalities.{Doubling, edge_le, double_fits, up_room, down_room, double_as, double_start, double_up, double_down, double_end}
use Rattle.tables.proofs.modal.modality.Goals as goal
use Rattle.tables.proofs.modal.modality.Goals.{then-some, else-some}

-- where the first entry is
first_small : {p : Plan} {x : ℕ} (d : Bool) → Sized p → x ≡ edge d (p.size - 1) → x + 1 ≤ p.size
first_small {p = p} d z e = omega (arith, size_some z, e, edge_le d (p.size - 1))

-- what is filled, once the flag is known
turned : {p : Plan} {d d' : Bool} {g : ℕ} {w v : List ℕ} {base at h s : ℕ} → d ≡ d' → Doubling p d g w v base at h s → Doubling p d' g w v base at h s
turned {p} {g = g} {w = w} {v = v} {base = base} {at = at} {h = h} {s = s} e D = subst (λ d. Doubling p d g w v base at h s) e D

pub overflow_sub-plan : goal.overflow_sub-plan
overflow_sub-plan c = omega (arith, size_some c.requires.0)

pub overflow_add-d : goal.overflow_add-d
overflow_add-d c = omega (arith, first_small c.args.some c.requires.0 c.edge-first.ensures)

pub overflow_cast-first : goal.overflow_cast-first
overflow_cast-first c = omega (arith, first_small c.args.some c.requires.0 c.edge-first.ensures, size_some c.requires.0)

pub constant-requires : goal.constant-requires
constant-requires c = omega (arith, first_small c.args.some c.requires.0 c.edge-first.ensures, c.requires.1)

pub loop-s-init : goal.loop-s-init
loop-s-init c =
    double_start c.requires.0 c.args.group c.args.some c.edge-first.ensures c.constant.ensures

pub sources_by-p-requires : goal.sources_by-p-requires
sources_by-p-requires c = (c.requires.0, omega arith)

pub widen-requires : goal.widen-requires
widen-requires c =
    let room : c.args.c + (decoded c.args.plan.now).size ≤ length c.loop-s.work = omega (arith, c.requires.1, c.constant.ensures.long, c.loop-s.invariant.filled.long) in
    omega (arith, up_room c.requires.0 (turned c.if-some.true c.loop-s.invariant) (omega arith))

pub overflow_sub-d : goal.overflow_sub-d
overflow_sub-d c =
    omega (arith, down_room c.requires.0 (turned c.if-some.false c.loop-s.invariant) (omega arith))

pub narrow-requires : goal.narrow-requires
narrow-requires c =
    let room : c.args.c + (decoded c.args.plan.now).size ≤ length c.loop-s.work = omega (arith, c.requires.1, c.constant.ensures.long, c.loop-s.invariant.filled.long) in
    omega (arith, down_room c.requires.0 (turned c.if-some.false c.loop-s.invariant) (omega arith))

pub overflow_mul-h : goal.overflow_mul-h
overflow_mul-h c =
    let z = c.requires.0 in
    omega (arith, double_fits z c.loop-s.invariant (omega arith), size_some z)

pub loop-s-preserved : goal.loop-s-preserved
loop-s-preserved c =
    let z = c.requires.0 in
    let is = c.sources_by-p.ensures in
    elim c.if-some.branch [
      | then-some w ↦
          let D = turned w.if-some.true c.loop-s.invariant in
          double_as w.if-some.true w.work-is w.d-is (double_up z c.args.group D (omega arith) is w.widen.ensures)
      | else-some w ↦
          let D = turned w.if-some.false c.loop-s.invariant in
          let near : c.loop-s.d ≡ c.loop-s.d - c.loop-s.h + c.loop-s.h = omega (arith, down_room z D (omega arith)) in
          double_as w.if-some.false w.work-is w.d-is (double_down z c.args.group D (omega arith) is near w.narrow.ensures)
    ]

pub returns : goal.returns
returns c =
    let whole = double_end c.requires.0 c.args.group c.args.some c.loop-s.invariant (omega arith) in
    filled_over c.constant.ensures whole (omega arith) (omega (arith, first_small c.args.some c.requires.0 c.edge-first.ensures))
