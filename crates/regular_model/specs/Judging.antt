-- Judging regular rules of large drives: docs/SPECIFICATION.md, section 12, with refusals 9, 13 and 14.
use Rattle.std.specs.Prelude.{ℕ, ◌*◌, ◌<◌, List, ◌≡◌, leb, ltb, length}
use Rattle.flc.specs.Formula.{mean, none}
use Rattle.flc.specs.Sets.{both, has}
use Rattle.case_model.specs.Limits.{Limits}
use Rattle.case_model.specs.Case.{Case, read, table, rule}
use Rattle.case_model.specs.Rows.{Found, ◌or_else◌, unless}
use Rattle.case_model.specs.Replies.{Reply, answers, replying, row13}
use Rattle.case_model.specs.Judging.{Verdict, judging}
use Rattle.case_model.specs.Run.{all_states}
use Rattle.regular_model.specs.Regular.{regular}
use Rattle.regular_model.specs.SetBytes.{set_bytes, in_bytes}

-- clause 12.1
abbrev pub large : Limits
large = record { longest = 65535; states = 256 }

-- clause 12.4: what the rule yields of the set of all states, by the same meaning as ever
abbrev pub whole_set : Case → ℕ
whole_set c = mean (table c) (rule c) none (all_states c)

unfoldable pub answer : Case → List ℕ
answer c = set_bytes (whole_set c)

-- clause 8.14: the rule is outside the profile
abbrev pub row14 : Case → Found
row14 c = unless (regular (rule c)) 14 0

-- clauses 8.9 and 12.6: fewer bytes than 64 for each node
abbrev pub row9 : Case → ℕ → Found
row9 c bytes = unless (leb (64 * length c.nodes) bytes) 9 0

-- clause 12.5: refusals 1 to 7 within these limits, then 14, 9 and 13 in this order, or the set
unfoldable pub judging_regular : List ℕ → ℕ → ℕ → Reply (List ℕ)
judging_regular f bytes room = replying large f (λ c. row14 c or_else row9 c bytes or_else row13 (answer c) room) answer

-- ---- what is proved of it
-- clause 12.4, bit by bit: 32 bytes, in which a state is just if the table has it and the rule yields it
pub record Exact (c : Case) : Type 0 where
  pub long : length (answer c) ≡ 32
  pub bits : (s : ℕ) → s < 256 → in_bytes (answer c) s ≡ both (ltb s (length c.labels)) (has (whole_set c) s)

-- clause 12.7: the first judge answers on all states, and this one the same set
pub record SameAnswer (f : List ℕ) (words bytes room : ℕ) : Type 0 where
  pub verdict : Verdict
  pub first : judging f (all_states (read f)) words ≡ answers verdict
  pub same : judging_regular f bytes room ≡ answers (set_bytes verdict.set)
