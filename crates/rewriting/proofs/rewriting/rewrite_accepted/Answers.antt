-- `rewriting::rewriting::rewrite_accepted` meets its contract: 11, 12 or 13, or the new file.
use Prim.Native.Nat.{ℕ, ◌+◌}
use mathlib.Core.Path.{◌≡◌, refl, ap}
use native.Mathlib.Omega.{arith}
use lib.ListN.{length}
use Rattle.case_file.proofs.Refusals.{of_reason}
use Rattle.case_model.proofs.Laying.{laid_whole}
use Rattle.case_model.specs.Case.{write}
use Rattle.case_model.specs.Replies.{answers}
use Rattle.rewritten_file.specs.Plans.{renewed}
use Rattle.rewritten_file.proofs.NewFile.{new_short}
use Rattle.rewriting.proofs.Outcomes.{nodes_few, planned, brought, count, rewriting_beyond, rewriting_nowhere, rewriting_many, rewriting_short, rewriting-fits}
use Rattle.rewriting.proofs.rewriting.rewrite_accepted.Goals as goal

pub returns-then-m-node : goal.returns-then-m-node
returns-then-m-node c =
    let a = c.args in
    let e = rewriting_beyond a.case.accepted a.law a.node (omega arith) (length a.out.now) in
    record { says = rw (e, of_reason {A = ℕ} c.into.result c.into.ensures); leaves = rw e }

pub shape_at-requires : goal.shape_at-requires
shape_at-requires c = omega (arith, nodes_few c.args.case.accepted, c.nodes-m.ensures)

pub returns-in_default : goal.returns-in_default
returns-in_default c =
    let a = c.args in
    let does = rw c.file-file.ensures at c.shape_at.ensures in
    let e = rewriting_nowhere a.case.accepted a.law a.node (omega arith) does c.in_default.is (length a.out.now) in
    record { says = rw (e, of_reason {A = ℕ} c.into-in_default.result c.into-in_default.ensures); leaves = rw e }

pub overflow_add-nodes : goal.overflow_add-nodes
overflow_add-nodes c = omega (arith, nodes_few c.args.case.accepted, c.nodes-m.ensures)

pub returns-then-nodes-gt-NODES : goal.returns-then-nodes-gt-NODES
returns-then-nodes-gt-NODES c =
    let a = c.args in
    let does = rw c.file-file.ensures at c.shape_at.ensures in
    let e = rewriting_many a.case.accepted a.law a.node (omega arith) does c.in-Some.shape c.in-Some.is (omega (arith, c.added.ensures)) (length a.out.now) in
    record { says = rw (e, of_reason {A = ℕ} c.into-then-nodes-gt-NODES.result c.into-then-nodes-gt-NODES.ensures) refl; leaves = rw e }

-- the plan is right, once the shape is there and the nodes are few enough
pub sizes-sizes-requires : goal.sizes-sizes-requires
sizes-sizes-requires c =
    let a = c.args in
    let does = rw c.file-file.ensures at c.shape_at.ensures in
    let p = planned a.case.accepted a.law a.node (omega arith) does c.in-Some.shape c.in-Some.is (λ i. omega (arith, (rw c.file-file.ensures at c.type_inv.file) i))
    (c.nodes-m.result + c.added.result) (omega (arith, c.added.ensures)) (omega arith) in
    rw c.file-file.ensures p

pub whole-all-requires : goal.whole-all-requires
whole-all-requires c =
    let a = c.args in
    let does = rw c.file-file.ensures at c.shape_at.ensures in
    let p = planned a.case.accepted a.law a.node (omega arith) does c.in-Some.shape c.in-Some.is (λ i. omega (arith, (rw c.file-file.ensures at c.type_inv.file) i))
    (c.nodes-m.result + c.added.result) (omega (arith, c.added.ensures)) (omega arith) in
    let z = rw c.file-file.ensures at c.sizes-sizes.ensures in
    omega (arith, z.all, new_short p)

pub returns-then-out-all : goal.returns-then-out-all
returns-then-out-all c =
    let a = c.args in
    let does = rw c.file-file.ensures at c.shape_at.ensures in
    let m = c.nodes-m.result + c.added.result in
    let is = brought a.case.accepted a.law a.node (omega arith) does c.in-Some.shape c.in-Some.is in
    let n = count a.case.accepted a.law a.node (omega arith) does c.in-Some.shape c.in-Some.is in
    let z = rw c.file-file.ensures at c.sizes-sizes.ensures in
    let e =
    rewriting_short a.case.file.now (record { shape = c.in-Some.shape; j = a.node; nodes = m }) a.case.accepted.rows a.law is (omega (arith, n, c.added.ensures)) (omega arith) (length a.out.now)
    (omega (arith, c.if-out-all.true, c.whole-all.ensures, z.all)) in
    record { says = rw (e, of_reason {A = ℕ} c.into-then-out-all.result c.into-then-out-all.ensures); leaves = rw e }

pub write-requires : goal.write-requires
write-requires c =
    let a = c.args in
    let does = rw c.file-file.ensures at c.shape_at.ensures in
    let p = planned a.case.accepted a.law a.node (omega arith) does c.in-Some.shape c.in-Some.is (λ i. omega (arith, (rw c.file-file.ensures at c.type_inv.file) i))
    (c.nodes-m.result + c.added.result) (omega (arith, c.added.ensures)) (omega arith) in
    (rw c.file-file.ensures p, c.sizes-sizes.ensures, omega (arith, c.whole-all.ensures, c.if-out-all.false))

pub returns : goal.returns
returns c =
    let a = c.args in
    let does = rw c.file-file.ensures at c.shape_at.ensures in
    let m = c.nodes-m.result + c.added.result in
    let is = brought a.case.accepted a.law a.node (omega arith) does c.in-Some.shape c.in-Some.is in
    let n = count a.case.accepted a.law a.node (omega arith) does c.in-Some.shape c.in-Some.is in
    let z = rw c.file-file.ensures at c.sizes-sizes.ensures in
    let new = rw c.file-file.ensures at c.write.ensures in
    let told : c.write.result ≡ length (write (renewed a.case.file.now (record { shape = c.in-Some.shape; j = a.node; nodes = m }))) = omega (arith, new.ends) in
    let e =
    rewriting-fits a.case.file.now (record { shape = c.in-Some.shape; j = a.node; nodes = m }) a.case.accepted.rows a.law is (omega (arith, n, c.added.ensures)) (omega arith) (length a.out.now)
    (omega (arith, c.if-out-all.false, c.whole-all.ensures, z.all)) in
    record { says = rw e (ap answers told); leaves = rw e (laid_whole new (omega (arith, c.if-out-all.false, c.whole-all.ensures, z.all))) }
