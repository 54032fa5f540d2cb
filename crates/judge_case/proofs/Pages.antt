-- What is printed of a file, by judging's reply.
use Prim.Native.Nat.{ℕ, ◌≤◌}
use mathlib.Core.Bool.{true}
use mathlib.Core.List.{List}
use mathlib.Core.Path.{◌≡◌, ◌∙◌, subst}
use lib.ListN.{length}
use Rattle.flc.specs.Sets.{set_of}
use Rattle.case_model.specs.Case.{read}
use Rattle.case_model.specs.Rows.{refused, refusals}
use Rattle.case_model.specs.Limits.{most_states, standard}
use Rattle.case_model.specs.Replies.{Reply}
use Rattle.case_model.specs.Judging.{Verdict, judging}
use Rattle.case_model.specs.Run.{in_answer, holds, every_start, starts_hold}
use Rattle.case_model.proofs.Replying.{refused-first}
use Rattle.case_model.proofs.Judged.{all_judged}
use Rattle.judge_case.specs.Printed.{refusal_line, printed, words, page}

-- on a set that is all states of a case, where the file is one
pub judged_page : (f : List ℕ) (n x : ℕ) {r : Reply Verdict} → n ≡ length (read f).labels
    → (n ≤ most_states → x ≡ set_of n (λ s. true)) → r ≡ judging f x words → printed n (every_start (read f) (in_answer r)) r ≡ page f
unfolding page starts_hold holds
judged_page f n x l a h =
    let e = h ∙ all_judged f x words (subst (λ k. k ≤ most_states → x ≡ set_of k (λ s. true)) l a) in
    λ z. printed (l z) (every_start (read f) (in_answer (e z))) (e z)

-- the page of a file that one of rows 1 to 7 refuses
pub refused-page : (f : List ℕ) (k p : ℕ) → refusals standard f ≡ refused k p → page f ≡ refusal_line k p
unfolding page judging
refused-page f k p e = rw (refused-first standard f _ _ e)
