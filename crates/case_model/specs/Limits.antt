-- How large the parts of a case may be: docs/SPECIFICATION.md, section 1.
use Rattle.std.specs.Prelude.{ℕ, ◌^◌}
use Rattle.flc.specs.Formula.{actions}

-- clause 1.1: a pair for each of four sections
abbrev pub sections : ℕ
sections = 4

-- clause 1.2: how many bytes of padding there can be between two sections
abbrev pub most_padding : ℕ
most_padding = 3

-- clauses 1.6 and 1.7: how many nodes, propositions, variables and groups of actions there can be
abbrev pub most_nodes : ℕ
most_nodes = 64

abbrev pub propositions : ℕ
propositions = 8

abbrev pub variables : ℕ
variables = 16

abbrev pub groups : ℕ
groups = 2 ^ actions

-- what a judge may set for itself: the length that no file exceeds, and how many states there can be
pub record Limits : Type 0 where
  pub longest : ℕ
  pub states : ℕ

-- clauses 1.3 and 1.4: the limits of the entries of docs/SPECIFICATION.md
abbrev pub most_states : ℕ
most_states = 16

abbrev pub standard : Limits
standard = record { longest = 6394; states = most_states }
