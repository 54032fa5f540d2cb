-- What the answer of vetting tells of the section that is opened.
-- An answer says that row 1 passed, so the section lies within the file; a refusal opens the empty part.
use Prim.Native.Nat.{ℕ, ◌+◌, ◌-◌, ◌≤◌, ◌<◌}
use native.Mathlib.Nat.{add-sub_cancel_left}
use mathlib.Core.List.{List, []}
use mathlib.Core.Path.{◌≡◌, sym, ap, ◌∙◌}
use borrow.Author.Tests.{ltb-true}
use lib.ListN.{length, take, drop}
use Rattle.std.specs.declared.result.Result.{Result}
use Rattle.std.specs.declared.result.Result.TheVariants.{Ok, Err}
use Rattle.case_model.specs.Bytes.{byte_at, offset, size, section}
use Rattle.case_model.specs.Limits.{sections, standard}
use Rattle.case_model.specs.Rows.{row8}
use Rattle.case_model.specs.Replies.{counts, vetting, opening, opened_at}
use Rattle.case_model.proofs.Lists.{length-list_of}
use Rattle.case_model.proofs.Sections.{within, section-part, unless_sound}
use Rattle.case_model.proofs.Replying.{answered}
use Rattle.case_model.proofs.Valid.{accepted_pairs}
use Rattle.case_file.specs.EnumNumbers.{vetted_reply}
use Rattle.case_file.specs.declared.reason.Refusal.{Refusal}
use Rattle.case_file.specs.declared.vetting.Counts.{Counts}

pub record Opens (f : List ℕ) (k : ℕ) : Type 0 where
  pub number : k < sections
  pub fits : offset f k + size f k ≤ length f
  pub is : opening f k ≡ take (size f k) (drop (offset f k) f)
  pub long : length (opening f k) ≡ size f k
  pub at : opened_at f k ≡ offset f k

pub opens : (f : List ℕ) (k : ℕ) {v : Result Counts Refusal} (x : Counts) → v ≡ Ok x → vetted_reply v ≡ vetting f k → Opens f k
unfolding vetting opening opened_at
opens f k {v} x q e =
    let (ok, own, _) = answered standard f (λ c. row8 k sections) counts (sym e ∙ ap vetted_reply q) in
    let h : k < sections = ltb-true _ _ (unless_sound _ 8 0 own) in
    let p = accepted_pairs standard f ok in
    record {
      number = h;
      fits = within standard f p k h;
      is = rw (← e, q) (section-part standard f p k h);
      long = rw (← e, q) (unfold section in length-list_of (size f k) (λ i. byte_at f (offset f k + i)));
      at = rw (← e, q);
    }

-- the bytes from where the section begins, if they are as many as it has
pub cut : {f : List ℕ} {k from to : ℕ} → Opens f k → from ≡ offset f k → to ≡ from + size f k → take (to - from) (drop from f) ≡ opening f k
cut o start end = rw (end, add-sub_cancel_left, start) (sym o.is)

pub record Empty (f : List ℕ) (k : ℕ) : Type 0 where
  pub is : [] ≡ opening f k
  pub at : opened_at f k ≡ 0

pub refuses : (f : List ℕ) (k : ℕ) {v : Result Counts Refusal} (x : Refusal) → v ≡ Err x → vetted_reply v ≡ vetting f k → Empty f k
unfolding opening opened_at
refuses f k x q e = record { is = rw (← e, q); at = rw (← e, q) }
