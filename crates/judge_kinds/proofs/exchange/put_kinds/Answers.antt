-- `judge_kinds::exchange::put_kinds` meets its contract: one node more a turn.
use Prim.Native.Nat.{ℕ, ◌+◌, ◌*◌, ◌/◌, ◌<◌}
use mathlib.Core.Bool.{true}
use mathlib.Core.List.{List}
use mathlib.Core.Path.{◌≡◌, ap, subst}
use native.Mathlib.Omega.{arith}
use lib.ListN.{length}
use Rattle.case_model.specs.Areas.{Filled}
use Rattle.case_model.specs.Bytes.{offset, size, pairs_hold}
use Rattle.case_model.specs.Case.{read}
use Rattle.case_model.specs.Limits.{standard}
use Rattle.judge_kinds_model.specs.Exchange.{exchanged_byte}
use Rattle.judge_kinds_model.proofs.Exchange.{one_more}
use Rattle.judge_kinds.proofs.Copying.{node_count, kind_inside}
use Rattle.judge_kinds.proofs.exchange.put_kinds.Goals as goal

pub loop-j-init : goal.loop-j-init
loop-j-init c = (c.requires.file_value.1, omega arith)

-- a node's kind is in the file
inside : (f : List ℕ) {n : ℕ} (j : ℕ) → pairs_hold standard f ≡ true → n ≡ length (read f).nodes → j < n → offset f 2 + 3 * j < length f
inside f j e q h = kind_inside f e j (omega (arith, node_count f, q))

pub bounds-file-at : goal.bounds-file-at
bounds-file-at c =
    omega (arith, inside c.args.file.now c.loop-j.j c.requires.file_value.0 c.node_count-j-end.ensures.is (omega arith), c.section_offset-start.ensures.is)

pub bounds-out-at : goal.bounds-out-at
bounds-out-at c =
    let start = c.section_offset-start.ensures.is in
    let here = inside c.args.file.now c.loop-j.j c.requires.file_value.0 c.node_count-j-end.ensures.is (omega arith) in
    omega (arith, here, start, c.requires.file_in_bounds, c.loop-j.invariant.0.long)

pub loop-j-preserved : goal.loop-j-preserved
loop-j-preserved c =
    let a = c.args in
    let (filled, few) = c.loop-j.invariant in
    let start = c.section_offset-start.ensures.is in
    let j = c.loop-j.j in
    let at = ap (λ o. o + 3 * j) start in
    let here = inside a.file.now j c.requires.file_value.0 c.node_count-j-end.ensures.is (omega arith) in
    (one_more a.kinds.now a.file.now j filled c.requires.file_in_bounds at (omega (arith, here, start)) c.stands_for.ensures, omega arith)

pub returns : goal.returns
returns c =
    let a = c.args in
    let (filled, few) = c.loop-j.invariant in
    let e : c.loop-j.j ≡ size a.file.now 2 / 3 = omega (arith, node_count a.file.now, c.node_count-j-end.ensures.is) in
    subst (λ m. Filled a.out.now c.loop-j.out 0 (length a.file.now) (exchanged_byte a.kinds.now a.file.now m)) e filled
