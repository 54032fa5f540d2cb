-- What the tests of single nodes say of the rule: by the kind that was found for a node, and for all nodes that are reached.
use Prim.Native.Nat.{ℕ, ◌<◌}
use mathlib.Core.Bool.{Bool, ◌||◌, not}
use mathlib.Core.Path.{◌≡◌, refl, sym, ap, ap₂, ◌∙◌}
use native.Mathlib.Omega.{arith}
use borrow.Author.Tests.{not-true}
use lib.ListN.{length}
use Rattle.flc.specs.Sets.{both, either, implies, for_all, has}
use Rattle.flc.specs.Formula.{atom, bottom}
use Rattle.flc.specs.Nodes.{Node, tree}
use Rattle.flc.proofs.Tests.{bool_ext, both_left, both_right, both_mk, implies_use, implies_mk, for_all_use, for_all_mk}
use Rattle.case_model.specs.Kinds.{Triple, kind_of, kind_at}
use Rattle.case_model.specs.Case.{Case, at, rule}
use Rattle.case_model.specs.Valid.{ValidRule}
use Rattle.case_model.specs.Reach.{ReachSet}
use Rattle.case_model.proofs.KindLines.{node_op}
use Rattle.case_model.proofs.Nodes.{reached_low}
use Rattle.case_model.proofs.Tests.{is_true}
use Rattle.case_reader.specs.NodeKinds.{atom_with, op_of, line_of}
use Rattle.case_reader.specs.declared.kinds.Atom.{Atom}
use Rattle.case_reader.specs.declared.kinds.Atom.TheVariants as atoms
use Rattle.case_reader.specs.declared.kinds.Operator.{Operator}
use Rattle.case_reader.specs.declared.kinds.Kind.{Kind}
use Rattle.case_reader.specs.declared.kinds.Kind.TheVariants as kind
use Rattle.case_reader.proofs.Knowing.{by_kind}
use Rattle.regular_model.specs.Regular.{modality, constant, is_modality, regular}
use Rattle.regular_model.specs.Profile.{modal_kind, modal_at, suits}
use Rattle.regular_model.proofs.Profile.{suits_node, node_modal, node_suits, case_regular}

-- ---- one node
-- what an atom is does not depend on its operand
any_operand : (x : Atom) (a : ℕ) → (modality (atom_with x 0) ≡ modality (atom_with x a)) × (constant (atom_with x 0) ≡ constant (atom_with x a))
any_operand atoms.Top a = (refl, refl)
any_operand atoms.Bottom a = (refl, refl)
any_operand atoms.Proposition a = (refl, refl)
any_operand atoms.Complement a = (refl, refl)
any_operand atoms.Tau a = (refl, refl)
any_operand (atoms.Action d) a = (refl, refl)
any_operand (atoms.Group d) a = (refl, refl)

-- whether a node is a modality, whatever trees stand below it
abbrev pub modal_node : Node → Bool
modal_node n = is_modality (tree n (λ i. atom bottom))

-- the triple t was read, which is u, and the kind k was found
module _ (t : Triple) {u : Triple} (is : t ≡ u) {k : Kind} (e : line_of k ≡ kind_at t.0) where
  pub found_modal : {k' : Kind} → k ≡ k' → modal_node ((line_of k').node t.1 t.2) ≡ modal_kind u.0
  found_modal q = by_kind t modal_node q e ∙ node_modal t (λ i. atom bottom) ∙ ap (λ (t : Triple). modal_kind t.0) is

  pub atom_modal : {x : Atom} → k ≡ kind.Atom x → modality (atom_with x 0) ≡ modal_kind u.0
  atom_modal {x} q = (any_operand x t.1).0 ∙ found_modal q

  module _ (m : ℕ → Bool) where
    pub found-suits : {k' : Kind} → k ≡ k' → suits_node m ((line_of k').node t.1 t.2) ≡ suits m u
    found-suits q = by_kind t (suits_node m) q e ∙ node_suits t m ∙ ap (suits m) is

    pub atom_suits : {x : Atom} → k ≡ kind.Atom x → (modality (atom_with x 0) || constant (atom_with x 0)) ≡ suits m u
    unfolding either regular
    atom_suits {x} q = (let (p, r) = any_operand x t.1 in ap₂ ◌||◌ p r) ∙ found-suits q

    pub sides_suit : {o : Operator} → k ≡ kind.Two o → suits m (kind_of (op_of o), t.1, t.2) ≡ suits m u
    sides_suit {o} q =
        let x : Triple = (kind_of (op_of o), t.1, t.2) in
        sym (node_suits x m) ∙ ap (suits_node m) (node_op (op_of o) x refl) ∙ found-suits q

-- ---- all nodes that are reached
-- node j is not in the set x, or it suits
abbrev pub suits_in : Case → ℕ → ℕ → Bool
suits_in c x j = implies (has x j) (suits (modal_at c) (at c.nodes j))

pub nodes_regular : {c : Case} (valid : ValidRule c) {x : ℕ} → ReachSet c x
    → both (not (modal_at c c.root)) (for_all (length c.nodes) (suits_in c x)) ≡ regular (rule c)
nodes_regular {c} valid {x} S = bool_ext _ _
    (λ t. rw ((case_regular valid).1 (record {
      root = not-true _ (is_true _ (both_left _ _ t));
      nodes = λ j r.
          let low : j < length c.nodes = omega (arith, reached_low valid j r, valid.root) in
          is_true _ (implies_use (has x j) _ (for_all_use _ _ (both_right _ _ t) j low) ((S.is j (omega (arith, low, valid.most))).1 r));
    })) tt)
    (λ t. let P = (case_regular valid).0 (is_true _ t) in
    both_mk _ _ (rw P.root tt)
    (for_all_mk _ _ (λ j l. implies_mk (has x j) _ (λ h. rw (P.nodes j ((S.is j (omega (arith, l, valid.most))).0 h)) tt))))
