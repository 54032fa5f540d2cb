-- Which rules are regular, by the kinds of the nodes that the root reaches: docs/SPECIFICATION.md, clause 12.3.
use Rattle.std.specs.Prelude.{ℕ, Bool, true, false, not, ◌≡◌, eqb, leb}
use Rattle.flc.specs.Sets.{both, either, implies}
use Rattle.case_model.specs.Kinds.{Triple}
use Rattle.case_model.specs.Case.{Case, at, node_at}
use Rattle.case_model.specs.Reach.{Reached}

-- kinds 6, 7, 13 and 14
unfoldable pub modal_kind : ℕ → Bool
modal_kind k = either (either (eqb k 6) (eqb k 7)) (either (eqb k 13) (eqb k 14))

-- node i of the case is of one of these
abbrev pub modal_at : Case → ℕ → Bool
modal_at c i = modal_kind (at c.nodes i).0

-- what is asked of a node that is reached, given which nodes are modalities: it is no τ (5); the left node of a chop (10) is a modality; those of or and
-- and (8, 9) are none; and the right ones (8 to 10), or a binder's body (11, 12), are none
unfoldable pub suits : (ℕ → Bool) → Triple → Bool
suits isModal t =
    both (both (not (eqb t.0 5)) (implies (eqb t.0 10) (isModal t.1)))
    (both (implies (either (eqb t.0 8) (eqb t.0 9)) (not (isModal t.1))) (implies (both (leb 8 t.0) (leb t.0 12)) (not (isModal t.2))))

-- clause 12.3: so it is of all nodes that the root reaches, and the root is no modality
pub record RegularNodes (c : Case) : Type 0 where
  pub root : modal_at c c.root ≡ false
  pub nodes : (j : ℕ) → Reached (node_at c) c.root j → suits (modal_at c) (at c.nodes j) ≡ true
