-- `judge_kinds::entry::judge_kinds` meets its contract: refusal 15, refusal 1, or judging of the exchanged file.
use Prim.Native.Nat.{ℕ}
use mathlib.Core.Bool.{Bool}
use mathlib.Core.List.{List}
use mathlib.Core.Path.{◌≡◌, refl, sym, ap, ◌∙◌, subst}
use lib.ListN.{length}
use Rattle.flc.specs.Permutations.{is_permutation}
use Rattle.case_model.specs.Judging.{cleared}
use Rattle.judge_kinds_model.specs.KindTables.{is_table}
use Rattle.judge_kinds_model.proofs.Judging.{other_table, by_table, unlaid_refused}
use Rattle.case_file.proofs.Refusals.{of_reason}
use Rattle.judge_kinds.proofs.Copying.{table_test}
use Rattle.judge_kinds.proofs.entry.judge_kinds.Goals as goal

-- the test of the code is that of a table
tested : (t : List ℕ) {b d : Bool} → b ≡ is_permutation 15 t → b ≡ d → is_table t ≡ d
tested t e q = sym (table_test t) ∙ sym e ∙ q

pub returns-then-not-is_permutation : goal.returns-then-not-is_permutation
returns-then-not-is_permutation c =
    let a = c.args in
    let w = a.work.now in
    let reply = other_table a.kinds.now a.file.now a.set (length w) (tested a.kinds.now c.is_permutation.ensures c.if-not-is_permutation.true) in
    record { result_value = of_reason _ c.into.ensures ∙ sym reply; work_after = subst (λ R. w ≡ cleared R w) (sym reply) refl }

pub returns-then-not-pairs_hold : goal.returns-then-not-pairs_hold
returns-then-not-pairs_hold c =
    let a = c.args in
    let w = a.work.now in
    let unlaid = sym c.pairs_hold.ensures ∙ c.if-not-pairs_hold.true in
    let reply = unlaid_refused a.kinds.now a.file.now a.set (length w) (tested a.kinds.now c.is_permutation.ensures c.if-not-is_permutation.false) unlaid in
    record { result_value = of_reason _ c.into-then-not-pairs_hold.ensures ∙ sym reply; work_after = subst (λ R. w ≡ cleared R w) (sym reply) refl }

pub judge_exchanged-requires : goal.judge_exchanged-requires
judge_exchanged-requires c = sym c.pairs_hold.ensures ∙ c.if-not-pairs_hold.false

pub returns : goal.returns
returns c =
    let a = c.args in
    let w = a.work.now in
    let reply = by_table a.kinds.now a.file.now a.set (length w) (tested a.kinds.now c.is_permutation.ensures c.if-not-is_permutation.false) in
    record {
      result_value = c.judge_exchanged.ensures.result_value ∙ sym reply;
      work_after = c.judge_exchanged.ensures.work_after ∙ ap (λ R. cleared R w) (sym reply);
    }
