-- A case as data: how it is read from a file, how it is written, its state table and its rule: docs/SPECIFICATION.md, section 1.
use Rattle.std.specs.Prelude.{ℕ, ◌+◌, ◌*◌, ◌/◌, Bool, false, List, [], ◌∷◌, ◌++◌, length, get_or, eqb}
use Rattle.flc.specs.Sets.{both, either}
use Rattle.flc.specs.Formula.{Table, Formula}
use Rattle.flc.specs.Nodes.{Node, formula_at}
use Rattle.case_model.specs.Bytes.{list_of, byte_at, size, section, packed}
use Rattle.case_model.specs.Kinds.{Triple, node_of}

pub record Case : Type 0 where
  pub labels : List ℕ
  pub steps : List Triple
  pub nodes : List Triple
  pub root : ℕ
  pub starts : List ℕ

-- ---- reading and writing
abbrev pub triple_at : List ℕ → ℕ → Triple
triple_at l at = (byte_at l at, byte_at l (at + 1), byte_at l (at + 2))

-- the whole triples of section k
abbrev pub triples : List ℕ → ℕ → List Triple
triples f k = list_of (size f k / 3) (λ i. triple_at (section f k) (3 * i))

-- clauses 1.4, 1.5, 1.6 and 1.16: labels, steps, nodes, the root behind the nodes, and start states, each from its section
abbrev pub read : List ℕ → Case
read f = record {
  labels = section f 0;
  steps = triples f 1;
  nodes = triples f 2;
  root = byte_at (section f 2) (3 * (size f 2 / 3));
  starts = section f 3;
}

abbrev pub flat : List Triple → List ℕ
flat [] = []
flat (t ∷ l) = t.0 ∷ t.1 ∷ t.2 ∷ flat l

-- clause 1.15: the sections of a case, and its file: the sections behind their head
abbrev pub parts : Case → List (List ℕ)
parts c = c.labels ∷ flat c.steps ∷ (flat c.nodes ++ (c.root ∷ [])) ∷ c.starts ∷ []

unfoldable pub write : Case → List ℕ
write c = packed (parts c)

-- ---- the state table
-- (s, a, t) is in the list
unfoldable pub listed : List Triple → ℕ → ℕ → ℕ → Bool
listed [] s a t = false
listed (x ∷ l) s a t = either (both (eqb x.0 s) (both (eqb x.1 a) (eqb x.2 t))) (listed l s a t)

unfoldable pub table : Case → Table
table c = record { n = length c.labels; label = λ s. get_or c.labels s 0; step = listed c.steps }

-- ---- the rule
abbrev pub at : List Triple → ℕ → Triple
at l i = get_or l i (0, 0, 0)

unfoldable pub node_at : Case → ℕ → Node
node_at c j = node_of (at c.nodes j)

unfoldable pub rule : Case → Formula
rule c = formula_at (node_at c) c.root
