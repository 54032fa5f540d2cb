-- The counts of the code, as the model has them. The case type cites this, so nothing here names that type.
use Rattle.case_model.specs.Replies.{Counts}
use Rattle.case_file.specs.declared.vetting.Counts as code

-- clause 1.12: n and m
abbrev pub counts_of : code.Counts → Counts
counts_of n = record { states = n.states; nodes = n.nodes }
