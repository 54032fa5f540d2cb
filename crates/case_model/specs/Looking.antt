-- What the rule of a case looks at, and that this is what occurs in the nodes that its root reaches: docs/SPECIFICATION.md, clause 4.9.
use Rattle.std.specs.Prelude.{ℕ, Bool, ◌⊎◌, ◌↔◌, ◌≡◌, T}
use Rattle.flc.specs.Sets.{has}
use Rattle.flc.specs.Nodes.{Node, leaf, two, bind}
use Rattle.flc.specs.Vocabulary.{Vocabulary, nothing, vocabulary}
use Rattle.case_model.specs.Kinds.{Triple}
use Rattle.case_model.specs.Case.{Case, at, node_at, rule}
use Rattle.case_model.specs.Reach.{Reached}
use Rattle.case_model.specs.ModalKinds.{Modal}

-- clause 4.9: what a node looks at by itself
abbrev pub own : Node → Vocabulary
own (leaf p) = vocabulary p
own (two o a b) = nothing
own (bind d v b) = nothing

-- clause 4.9: the tree of the rule has the nodes that the root reaches, and no other
unfoldable pub looked : Case → Vocabulary
looked c = vocabulary (rule c)

-- clause 4.9: the node is of kind 2 or 3 and has the proposition i
abbrev pub OfProposition : Triple → ℕ → Type 0
OfProposition t i = ((t.0 ≡ 2) ⊎ (t.0 ≡ 3)) × (t.1 ≡ i)

-- clause 4.9: the node is of kind 6, 7, 13 or 14, and the action a is in its group
abbrev pub OfAction : Triple → ℕ → Type 0
OfAction t a = (d : Bool) × (g : ℕ) × Modal t.0 t.1 d g × T (has g a)

-- clause 4.9: what is looked at stands in a node that is reached, and what stands in one is looked at
pub record LooksAt (c : Case) : Type 0 where
  pub props : (i : ℕ) → T (has (looked c).props i) ↔ ((j : ℕ) × Reached (node_at c) c.root j × OfProposition (at c.nodes j) i)
  pub acts : (a : ℕ) → T (has (looked c).acts a) ↔ ((j : ℕ) × Reached (node_at c) c.root j × OfAction (at c.nodes j) a)
