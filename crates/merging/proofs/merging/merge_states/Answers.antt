-- `merging::merging::merge_states` meets its contract: 8, or 10, or what merging the lower and the higher state replies.
use Prim.Native.Nat.{ℕ}
use mathlib.Core.Path.{refl}
use native.Mathlib.Omega.{arith}
use lib.ListN.{length}
use Rattle.case_file.proofs.Refusals.{of_reason}
use Rattle.merging.proofs.Replying.{inside, merging_beyond, merging_unlike, merging-alike}
use Rattle.merging.proofs.merging.merge_states.Goals as goal

pub returns-then-not-inside : goal.returns-then-not-inside
returns-then-not-inside c =
    let a = c.args in
    let e = merging_beyond a.case.file.now a.s a.t (length a.out.now) a.case.accepted c.states-n.ensures c.if-not-inside.true in
    record { says = rw (e, of_reason {A = ℕ} c.into.result c.into.ensures) refl; leaves = rw e }

pub offset_bounds-rows-s : goal.offset_bounds-rows-s
offset_bounds-rows-s c =
    let a = c.args in
    let (i, j, few) = inside a.case.file.now a.s a.t (length a.out.now) a.case.accepted c.states-n.ensures c.if-not-inside.false in
    omega arith

pub bounds-rows-s : goal.bounds-rows-s
bounds-rows-s c =
    let a = c.args in
    let (i, j, few) = inside a.case.file.now a.s a.t (length a.out.now) a.case.accepted c.states-n.ensures c.if-not-inside.false in
    omega arith

pub returns-then-not-mergeable : goal.returns-then-not-mergeable
returns-then-not-mergeable c =
    let a = c.args in
    let e =
    merging_unlike a.case.file.now a.s a.t (length a.out.now) a.case.accepted
    c.states-n.ensures c.if-not-inside.false
    c.draw.ensures c.alike_rows-rows.ensures
    c.holds.ensures c.if-not-mergeable.true in
    record { says = rw (e, of_reason {A = ℕ} c.into-then-not-mergeable.result c.into-then-not-mergeable.ensures) refl; leaves = rw e }

pub returns : goal.returns
returns c =
    let a = c.args in
    let p = c.of.ensures in
    let e =
    merging-alike a.case.file.now a.s a.t (length a.out.now) a.case.accepted
    c.states-n.ensures c.if-not-inside.false
    c.draw.ensures c.alike_rows-rows.ensures
    c.holds.ensures c.if-not-mergeable.false p.0 p.1 in
    record { says = rw e c.merge_pair.ensures.result_value; leaves = rw e c.merge_pair.ensures.out_after }
