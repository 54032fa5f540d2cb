-- The start states of a merged case as a set, and a set as a list of bytes.
use Rattle.std.specs.Prelude.{ℕ, ◌<◌, List, map, length}
use Rattle.flc.specs.Sets.{has, set_of}
use Rattle.case_model.specs.Bytes.{byte_at}
use Rattle.case_model.specs.Limits.{most_states}
use Rattle.case_model.specs.Case.{Case}
use Rattle.case_model.specs.Merging.{moved, selected, is_in}
use Rattle.merged_steps.specs.declared.rows.Pair.{Pair}

-- the states that stand for start states, once a pair is merged
unfoldable pub start_set : Case → Pair → ℕ
start_set c p = set_of most_states (is_in (map (moved p.kept p.removed) c.starts))

-- start states and the kept one have a place in a set
pub record Small (c : Case) (p : Pair) : Type 0 where
  pub kept : p.kept < most_states
  pub starts : (i : ℕ) → i < length c.starts → byte_at c.starts i < most_states

-- the states of a set, in rising order
unfoldable pub members : ℕ → List ℕ
members x = selected most_states (has x) (λ s. s)
