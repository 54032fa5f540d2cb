-- The number and values that docs/SPECIFICATION.md has for the code's enums and results: sections 7 and 8.
use Rattle.std.specs.Prelude.{ℕ, Result, Ok, Err}
use Rattle.case_model.specs.Rows.{Found, sound, refused}
use Rattle.case_model.specs.Replies.{Reply, answers, refuses, Counts}
use Rattle.case_file.specs.Counting.{counts_of}
use Rattle.case_file.specs.declared.reason.Reason.{Reason}
use Rattle.case_file.specs.declared.reason.Reason.TheVariants as reason
use Rattle.case_file.specs.declared.reason.Refusal.{Refusal}
use Rattle.case_file.specs.declared.accepted.CaseWithin.{CaseWithin}
use Rattle.case_file.specs.declared.case.Case.{Case}
use Rattle.case_file.specs.declared.vetting.Counts as code

-- clauses 8.1 to 8.15: the number of each reason
abbrev pub number : Reason → ℕ
number reason.Pairs = 1
number reason.Labels = 2
number reason.Steps = 3
number reason.Rule = 4
number reason.Node = 5
number reason.Binder = 6
number reason.Free = 7
number reason.Beyond = 8
number reason.Work = 9
number reason.Unlike = 10
number reason.Shape = 11
number reason.TooManyNodes = 12
number reason.Room = 13
number reason.Form = 14
number reason.Table = 15

-- clause 7.3: what an answer of the code finds: nothing, or its refusal
abbrev pub found : {A : Type 0} → Result A Refusal → Found
found (Ok a) = sound
found (Err r) = refused (number r.reason) r.place

-- clause 7.1: the reply that an answer of the code is, whose `Ok` is seen as the model sees it
abbrev pub reply : {A B : Type 0} → (A → B) → Result A Refusal → Reply B
reply seen (Ok a) = answers (seen a)
reply seen (Err r) = refuses (number r.reason) r.place

-- clause 1.12: n and m of a case
abbrev pub case_counts : {longest states : ℕ} → CaseWithin longest states → Counts
case_counts c = counts_of c.counts

-- the same of a case without its file
abbrev pub counted_only : Case → Counts
counted_only c = counts_of c.counts

abbrev pub vetted_reply : Result code.Counts Refusal → Reply Counts
vetted_reply = reply counts_of

abbrev pub checked_reply : {longest states : ℕ} → Result (CaseWithin longest states) Refusal → Reply Counts
checked_reply = reply case_counts

-- clause 7.6: how many bytes were written
abbrev pub written_reply : Result ℕ Refusal → Reply ℕ
written_reply = reply (λ n. n)
