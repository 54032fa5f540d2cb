-- What the judge of large drives answers, bit by bit; and that the first judge, where it accepts the file and has area enough, answers the same set.
use mathlib.Core.Path.{◌≡◌, ap, ◌∙◌}
use mathlib.Core.Bool.{true}
use mathlib.Core.List.{List}
use Prim.Native.Nat.{ℕ, ◌+◌, ◌*◌, ◌/◌, ◌%◌, ◌^◌, ◌≤◌, ◌<◌}
use native.Mathlib.Decide.{dec_lt}
use native.Mathlib.Omega.{arith}
use borrow.Author.Tests.{le-leb, lt-ltb, le-ltb}
use lib.Dec.{ltb}
use lib.ListN.{length}
use Rattle.flc.specs.Sets.{both, has}
use Rattle.flc.specs.Formula.{none}
use Rattle.flc.proofs.Masks.{set_of_lt, has_beyond}
use Rattle.flc.proofs.Meanings.{none_good, mean_small}
use Rattle.case_model.specs.Limits.{standard}
use Rattle.case_model.specs.Case.{Case, read, table, rule}
use Rattle.case_model.specs.Rows.{sound, refusals}
use Rattle.case_model.specs.Judging as first
use Rattle.case_model.specs.Judging.{verdict}
use Rattle.case_model.specs.Replies.{replying}
use Rattle.case_model.proofs.Judged.{judging_answers}
use Rattle.case_model.proofs.Lists.{length-list_of, get_or-list_of}
use Rattle.case_model.proofs.Wider.{wider}
use Rattle.regular_model.specs.Regular.{regular}
use Rattle.regular_model.specs.SetBytes.{byte_of, set_bytes}
use Rattle.regular_model.specs.Judging.{large, whole_set, answer, judging_regular, Exact, SameAnswer}
use Rattle.regular_model.proofs.SetBytes.{has-byte_of}

-- ---- the answer
whole_small : (c : Case) → whole_set c < 2 ^ length c.labels
unfolding table
whole_small c = mean_small (table c) (rule c) none (none_good (length c.labels)) _ (set_of_lt (length c.labels) _)

-- a set of n states has none past them
within : (n x s : ℕ) → x < 2 ^ n → has x s ≡ both (ltb s n) (has x s)
unfolding both
within n x s h = elim (dec_lt s n) [
  | yes l ↦ rw (lt-ltb s n l)
  | no l ↦ rw (le-ltb s n (omega arith)) (has_beyond n x s h (omega arith))
]

-- clause 12.4
pub exact : (c : Case) → Exact c
unfolding answer set_bytes
exact c = record {
  long = length-list_of 32 (byte_of (whole_set c));
  bits = λ s h.
      let e : 8 * (s / 8) + s % 8 ≡ s = omega arith in
      ap (λ b. has b (s % 8)) (get_or-list_of 32 (byte_of (whole_set c)) 0 (s / 8) (omega arith))
      ∙ has-byte_of (whole_set c) (s / 8) (s % 8) (omega arith) ∙ ap (has (whole_set c)) e ∙ within (length c.labels) (whole_set c) s (whole_small c);
}

-- ---- the two judges
-- clause 12.7
pub same_answer : (f : List ℕ) (words bytes room : ℕ) → refusals standard f ≡ sound → regular (rule (read f)) ≡ true
    → first.row9 (read f) words ≡ sound → 64 * length (read f).nodes ≤ bytes → 32 ≤ room → SameAnswer f words bytes room
unfolding judging_regular replying verdict answer
same_answer f words bytes room accepted form w b r =
    let c : Case = read f in
    let ok = wider {most = standard} {wide = large} (omega arith) (omega arith) f accepted in
    let fits = le-leb (length (answer c)) room (omega (arith, (exact c).long)) in
    record {
      verdict = verdict c _;
      first = judging_answers f _ words accepted (set_of_lt (length c.labels) _) w;
      same = rw (ok, form, le-leb (64 * length c.nodes) bytes b, fits);
    }
