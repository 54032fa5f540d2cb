-- The counts of this judge's case, and what reply its constructor's answer is: docs/SPECIFICATION.md, clauses 7.1 and 12.1.
use Rattle.std.specs.Prelude.{Result}
use Rattle.case_model.specs.Replies.{Reply, Counts}
use Rattle.case_file.specs.Counting.{counts_of}
use Rattle.case_file.specs.EnumNumbers.{reply}
use Rattle.case_file.specs.declared.reason.Refusal.{Refusal}
use Rattle.regular.specs.declared.case.LargeCase.{LargeCase}

abbrev pub large_counts : LargeCase → Counts
large_counts c = counts_of c.counts

abbrev pub checked_reply : Result LargeCase Refusal → Reply Counts
checked_reply = reply large_counts
