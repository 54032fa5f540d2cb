-- The program prints the same of two files that differ in padding alone.
-- The page is made of the case and of judging's reply.
use Prim.Native.Nat.{ℕ}
use mathlib.Core.List.{List}
use mathlib.Core.Path.{◌≡◌, ap, ◌∙◌}
use lib.ListN.{length}
use Rattle.case_model.specs.Limits.{standard}
use Rattle.case_model.specs.Case.{Case, read}
use Rattle.case_model.specs.Judging.{judging}
use Rattle.case_model.specs.Padding.{PaddingAside}
use Rattle.case_model.specs.Run.{all_states, in_answer, holds, every_start, starts_hold}
use Rattle.case_model.proofs.Padding.{read_same, padding_aside}
use Rattle.judge_case.specs.Printed.{printed, words, page}

-- clauses 1.17 and 9.1
pub page_aside : {f g : List ℕ} → PaddingAside standard f g → page f ≡ page g
unfolding page starts_hold holds judging
page_aside {f} {g} p =
    let replies : judging f (all_states (read f)) words ≡ judging g (all_states (read g)) words =
    (padding_aside p).replies _ _ ∙ ap (λ (c : Case). judging g (all_states c) words) (read_same p) in
    λ z. let c : Case = read_same p z in printed (length c.labels) (every_start c (in_answer (replies z))) (replies z)
