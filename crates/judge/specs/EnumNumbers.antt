-- What judging answers with, as docs/SPECIFICATION.md, clauses 3.2 and 7.1, has it.
use Rattle.std.specs.Prelude.{Result}
use Rattle.case_file.specs.EnumNumbers.{reply}
use Rattle.case_file.specs.declared.reason.Refusal.{Refusal}
use Rattle.case_model.specs.Judging as model
use Rattle.case_model.specs.Replies.{Reply}
use Rattle.judge.specs.declared.entry.Verdict.{Verdict}

-- clause 3.2: the root's function at the set, and the rounds
abbrev pub answer : Verdict → model.Verdict
answer v = record { set = v.set; rounds = v.rounds }

-- clause 7.1: the reply of judging
abbrev pub judged_reply : Result Verdict Refusal → Reply model.Verdict
judged_reply = reply answer
