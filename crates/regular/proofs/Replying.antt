-- What this judge replies of an accepted case, row by row, and what the two areas then hold.
use Prim.Native.Nat.{ℕ, ◌*◌, ◌≤◌, ◌<◌}
use mathlib.Core.Bool.{true, false}
use mathlib.Core.List.{List}
use mathlib.Core.Path.{◌≡◌, refl, sym, ap, ◌∙◌, subst}
use native.Mathlib.Omega.{arith}
use borrow.Author.Tests.{le-leb, lt-leb}
use lib.Dec.{leb}
use lib.ListN.{length, replicate}
use Rattle.case_model.specs.Areas.{Laid, Filled}
use Rattle.case_model.specs.Case.{read, rule}
use Rattle.case_model.specs.Judging.{cleared}
use Rattle.case_model.specs.Replies.{Reply, answers, refuses, replying, counted, written}
use Rattle.case_model.specs.Rows.{sound, refusals}
use Rattle.case_model.proofs.Filling.{zeroed}
use Rattle.case_model.proofs.Laying.{laid_whole, laid_as}
use Rattle.regular_model.specs.Regular.{regular}
use Rattle.regular_model.specs.SetBytes.{set_bytes}
use Rattle.regular_model.specs.HeldSets.{held_at}
use Rattle.regular_model.specs.Judging.{large, answer, judging_regular}
use Rattle.regular_model.proofs.Judging.{exact}
use Rattle.regular_engine.specs.Computing.{Ran}

-- ---- the rows of an accepted case that are left
module _ (f : List ℕ) (bytes room : ℕ) (s : refusals large f ≡ sound) where
  pub judging_form : regular (rule (read f)) ≡ false → judging_regular f bytes room ≡ refuses 14 0
  unfolding judging_regular replying
  judging_form e = rw (s, e)

  module _ (inside : regular (rule (read f)) ≡ true) where
    pub judging_short : leb (64 * length (read f).nodes) bytes ≡ false → judging_regular f bytes room ≡ refuses 9 0
    unfolding judging_regular replying
    judging_short h = rw (s, inside, h)

    module _ (enough : leb (64 * length (read f).nodes) bytes ≡ true) where
      pub judging_narrow : room < 32 → judging_regular f bytes room ≡ refuses 13 0
      unfolding judging_regular replying
      judging_narrow h = rw (s, inside, enough, lt-leb (length (answer (read f))) room (omega (arith, (exact (read f)).long)))

      pub judging_set : 32 ≤ room → judging_regular f bytes room ≡ answers (answer (read f))
      unfolding judging_regular replying
      judging_set h = rw (s, inside, enough, le-leb (length (answer (read f))) room (omega (arith, (exact (read f)).long)))

-- ---- the reply and the areas together
abbrev Replied : Reply (List ℕ) → Reply ℕ → List ℕ → List ℕ → List ℕ → List ℕ → Type 0
Replied j told out out' work work' = (told ≡ counted j) × ((out' ≡ written j out) × (work' ≡ cleared j work))

-- a refusal: both areas are as they were
pub refuses_so : {j : Reply (List ℕ)} {told : Reply ℕ} {k p : ℕ} (out work : List ℕ) → told ≡ refuses k p → j ≡ refuses k p
    → Replied j told out out work work
refuses_so {j} {told} {k} {p} out work t e = subst (λ j. Replied j told out out work work) (sym e) (t, (refl, refl))

-- the answer: the set in front of the output area, and the work area cleared
pub answers_so : {f work v work' out out' : List ℕ} {j : Reply (List ℕ)} {at : ℕ} → Ran f work v at → Laid out out' 0 32 (set_bytes (held_at v at))
    → 32 ≤ length out → Filled v work' 0 (length v) (λ x. 0) → j ≡ answers (answer (read f)) → Replied j (answers 32) out out' work work'
unfolding answer
answers_so {f} {work} {v} {work'} {out} {out'} {j} {at} R l h Z e =
    let is : set_bytes (held_at v at) ≡ answer (read f) = ap set_bytes R.is in
    subst (λ j. Replied j (answers 32) out out' work work') (sym e) (
      ap (λ k. answers k) (sym (exact (read f)).long),
      (laid_whole (laid_as is l) h, zeroed Z ∙ ap (λ n. replicate n 0) R.long),
    )
