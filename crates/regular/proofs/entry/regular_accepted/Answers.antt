-- `regular::entry::regular_accepted` meets its contract: rows 14, 9 and 13, and else the root's set is written and the work area cleared.
use Prim.Native.Nat.{ℕ, ◌*◌, ◌≤◌}
use mathlib.Core.Bool.{Bool, true}
use mathlib.Core.Path.{◌≡◌, sym, ap, ◌∙◌, subst}
use native.Mathlib.Omega.{arith}
use borrow.Author.Tests.{leb-true}
use lib.Dec.{T, leb}
use lib.ListN.{length}
use Rattle.case_model.specs.Case.{read, rule}
use Rattle.case_model.specs.Replies.{Counts}
use Rattle.case_model.proofs.Valid.{accepted_valid}
use Rattle.case_file.proofs.Refusals.{of_reason}
use Rattle.regular_model.specs.Regular.{regular}
use Rattle.regular.proofs.Replying.{judging_form, judging_short, judging_narrow, judging_set, refuses_so, answers_so}
use Rattle.regular.proofs.entry.regular_accepted.Goals as goal

pub is_regular-requires : goal.is_regular-requires
is_regular-requires c = rw c.file.ensures ((accepted_valid _ _ c.args.case.accepted.rows).rule)

pub returns-then-not-is_regular : goal.returns-then-not-is_regular
returns-then-not-is_regular c =
    let a = c.args in
    let tested = rw c.file.ensures at c.is_regular.ensures in
    let (told, (out, work)) = refuses_so a.out.now a.work.now (of_reason _ c.into.ensures)
    (judging_form a.case.file.now (length a.work.now) (length a.out.now) a.case.accepted.rows (sym tested ∙ c.if-not-is_regular.true)) in
    record { result_value = told; out_after = out; work_after = work }

nodes_told : {k l : Counts} {n : ℕ} → k ≡ l → l.nodes ≡ n → k.nodes ≡ n
nodes_told e q = ap (λ (k : Counts). k.nodes) e ∙ q

-- the test of the area, of the file's own count
area_tested : {test : Bool} {m n : ℕ} (bytes : ℕ) → test ≡ leb (64 * m) bytes → m ≡ n → test ≡ leb (64 * n) bytes
area_tested bytes e q = e ∙ ap (λ m. leb (64 * m) bytes) q

-- past row 14 the rule is regular
pub returns-then-not-has_area : goal.returns-then-not-has_area
returns-then-not-has_area c =
    let a = c.args in
    let inside = sym (rw c.file.ensures at c.is_regular.ensures) ∙ c.if-not-is_regular.false in
    let tested = area_tested (length a.work.now) c.has_area.ensures (nodes_told c.of.ensures a.case.accepted.nodes) in
    let (told, (out, work)) = refuses_so a.out.now a.work.now (of_reason _ c.into-then-not-has_area.ensures)
    (judging_short a.case.file.now (length a.work.now) (length a.out.now) a.case.accepted.rows inside (sym tested ∙ c.if-not-has_area.true)) in
    record { result_value = told; out_after = out; work_after = work }

-- past row 9 the area is large enough
pub returns-then-out-lt-SET : goal.returns-then-out-lt-SET
returns-then-out-lt-SET c =
    let a = c.args in
    let inside = sym (rw c.file.ensures at c.is_regular.ensures) ∙ c.if-not-is_regular.false in
    let tested = area_tested (length a.work.now) c.has_area.ensures (nodes_told c.of.ensures a.case.accepted.nodes) in
    let (told, (out, work)) = refuses_so a.out.now a.work.now (of_reason _ c.into-then-out-lt-SET.ensures)
    (judging_narrow a.case.file.now (length a.work.now) (length a.out.now) a.case.accepted.rows inside (sym tested ∙ c.if-not-has_area.false) c.if-out-lt-SET.true) in
    record { result_value = told; out_after = out; work_after = work }

pub run-at-requires : goal.run-at-requires
run-at-requires c =
    let inside : regular (rule (read c.args.case.file.now)) ≡ true = sym (rw c.file.ensures at c.is_regular.ensures) ∙ c.if-not-is_regular.false in
    let tested = area_tested (length c.args.work.now) c.has_area.ensures (nodes_told c.of.ensures c.args.case.accepted.nodes) in
    rw c.file-2.ensures (record {
      rows = c.args.case.accepted.rows;
      profile = subst T (sym inside) tt;
      room = leb-true _ _ (sym tested ∙ c.if-not-has_area.false);
    })

pub returns : goal.returns
returns c =
    let a = c.args in
    let inside = sym (rw c.file.ensures at c.is_regular.ensures) ∙ c.if-not-is_regular.false in
    let tested = area_tested (length a.work.now) c.has_area.ensures (nodes_told c.of.ensures a.case.accepted.nodes) in
    let room : 32 ≤ length a.out.now = omega (arith, c.if-out-lt-SET.false) in
    let (told, (out, work)) = answers_so (rw c.file-2.ensures at c.run-at.ensures) c.write_set.ensures room c.clear.ensures
    (judging_set a.case.file.now (length a.work.now) (length a.out.now) a.case.accepted.rows inside (sym tested ∙ c.if-not-has_area.false) room) in
    record { result_value = told; out_after = out; work_after = work }
