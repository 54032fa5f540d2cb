-- A file, and a case, with the kinds of its nodes exchanged by a table: docs/SPECIFICATION.md, clause 13.3.
use Rattle.std.specs.Prelude.{ℕ, ◌+◌, ◌*◌, ◌/◌, Bool, cond, List, map, eqb, length}
use Rattle.flc.specs.Sets.{for_some}
use Rattle.case_model.specs.Bytes.{list_of, byte_at, offset, size, pairs_hold}
use Rattle.case_model.specs.Case.{Case}
use Rattle.case_model.specs.Kinds.{Triple}
use Rattle.case_model.specs.Limits.{standard}
use Rattle.judge_kinds_model.specs.KindTables.{stands_for}

-- byte p is the kind of one of the first m nodes
unfoldable pub is_kind : List ℕ → ℕ → ℕ → Bool
is_kind f m p = for_some m (λ j. eqb p (offset f 2 + 3 * j))

-- byte p once these are exchanged
unfoldable pub exchanged_byte : List ℕ → List ℕ → ℕ → ℕ → ℕ
exchanged_byte t f m p = cond (is_kind f m p) (stands_for t (byte_at f p)) (byte_at f p)

-- clause 13.3: the kind of each node, of whole triples of section 2, and no other byte; of a file that row 1 refuses, none
unfoldable pub exchanged : List ℕ → List ℕ → List ℕ
exchanged t f = cond (pairs_hold standard f) (list_of (length f) (exchanged_byte t f (size f 2 / 3))) f

-- clause 13.6: the same, said of the case
abbrev pub exchanged_node : List ℕ → Triple → Triple
exchanged_node t x = (stands_for t x.0, x.1, x.2)

abbrev pub exchanged_case : List ℕ → Case → Case
exchanged_case t c = record {
  labels = c.labels;
  steps = c.steps;
  nodes = map (exchanged_node t) c.nodes;
  root = c.root;
  starts = c.starts;
}
