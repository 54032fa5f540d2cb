-- The tree of a valid rule is regular just if the nodes that its root reaches are as clause 12.3 says.
-- A tree that is regular or a modality is called fine here. The tree of a node is fine just if the node suits and the trees of the nodes that it names are
-- fine. So from a fine root down every node is fine and suits; and if all nodes suit, they are fine from the lowest up. A regular tree is a fine one that is
-- no modality.
use Prim.Native.Nat.{ℕ, zero, suc, ◌<◌}
use mathlib.Core.Bool.{Bool, true, false, not}
use mathlib.Core.Logic.{inl, inr, ◌↔◌}
use mathlib.Core.Path.{◌≡◌, refl, sym, ap, ap₂, ◌∙◌, subst}
use native.Mathlib.Nat.{not-suc-le-zero}
use native.Mathlib.Omega.{arith}
use borrow.Author.Tests.{leb-true, le-leb, lt-leb, ne_eqb}
use lib.Dec.{T, eqb, leb, T_not}
use Rattle.flc.specs.Sets.{both, either, implies}
use Rattle.flc.specs.Formula.{top, bottom, tau, prop, nprop, modal, or, and, chop, Formula, atom, var, op, fix}
use Rattle.flc.specs.Nodes.{Node, leaf, two, bind, Names, tree, lower, formula_at}
use Rattle.flc.proofs.Tests.{both_left, both_right, both_mk}
use Rattle.flc.proofs.Unfolding.{formula_at_node}
use Rattle.case_model.specs.Kinds.{Triple, kinds, kind_at, node_of}
use Rattle.case_model.specs.Case.{Case, at, node_at, rule}
use Rattle.case_model.specs.Valid.{ValidRule}
use Rattle.case_model.specs.Reach.{Reached, the_root, named}
use Rattle.case_model.proofs.Tests.{is_true, is_false}
use Rattle.case_model.proofs.Nodes.{all_lower}
use Rattle.regular_model.specs.Regular.{is_modality, regular}
use Rattle.regular_model.specs.Profile.{modal_kind, modal_at, suits, RegularNodes}
use Rattle.regular_model.proofs.Examples as examples

abbrev pub fine : Formula → Bool
fine p = either (is_modality p) (regular p)

-- ---- kinds
-- what is asked of a node, by what it is and not by its kind; of a leaf: no τ
abbrev pub suits_node : (ℕ → Bool) → Node → Bool
suits_node m (leaf p) = fine p
suits_node m (two or a b) = both (not (m a)) (not (m b))
suits_node m (two and a b) = both (not (m a)) (not (m b))
suits_node m (two chop a b) = both (m a) (not (m b))
suits_node m (bind d v b) = not (m b)

-- past the table's end
past : (m : ℕ → Bool) (k a b : ℕ) → 14 < k → (false ≡ modal_kind k) × (true ≡ suits m (k, a, b))
unfolding modal_kind suits both either implies
past m k a b h = (simp other, simp (other, le-leb 8 k (omega arith), lt-leb k 12 (omega arith)))
  where
    other : (i : ℕ) → leb i 14 ≡ true → eqb k i ≡ false
    other i l = ne_eqb k i (λ e. omega (arith, leb-true i 14 l))

-- for each kind
by_node : (φ : ℕ → Formula) (m : ℕ → Bool) (k a b : ℕ)
    → (is_modality (tree ((kind_at k).node a b) φ) ≡ modal_kind k) × (suits_node m ((kind_at k).node a b) ≡ suits m (k, a, b))
unfolding kind_at kinds modal_kind suits regular both either implies
by_node φ m zero a b = (refl, refl)
by_node φ m (suc zero) a b = (refl, refl)
by_node φ m (suc (suc zero)) a b = (refl, refl)
by_node φ m (suc (suc (suc zero))) a b = (refl, refl)
by_node φ m (suc (suc (suc (suc zero)))) a b = (refl, refl)
by_node φ m (suc (suc (suc (suc (suc zero))))) a b = (refl, refl)
by_node φ m (suc (suc (suc (suc (suc (suc zero)))))) a b = (refl, refl)
by_node φ m (suc (suc (suc (suc (suc (suc (suc zero))))))) a b = (refl, refl)
by_node φ m (suc (suc (suc (suc (suc (suc (suc (suc zero)))))))) a b = (refl, refl)
by_node φ m (suc (suc (suc (suc (suc (suc (suc (suc (suc zero))))))))) a b = (refl, refl)
by_node φ m (suc (suc (suc (suc (suc (suc (suc (suc (suc (suc zero)))))))))) a b = (refl, refl)
by_node φ m (suc (suc (suc (suc (suc (suc (suc (suc (suc (suc (suc zero))))))))))) a b = (refl, refl)
by_node φ m (suc (suc (suc (suc (suc (suc (suc (suc (suc (suc (suc (suc zero)))))))))))) a b = (refl, refl)
by_node φ m (suc (suc (suc (suc (suc (suc (suc (suc (suc (suc (suc (suc (suc zero))))))))))))) a b = (refl, refl)
by_node φ m (suc (suc (suc (suc (suc (suc (suc (suc (suc (suc (suc (suc (suc (suc zero)))))))))))))) a b = (refl, refl)
by_node φ m (suc (suc (suc (suc (suc (suc (suc (suc (suc (suc (suc (suc (suc (suc (suc k))))))))))))))) a b =
    past m (suc (suc (suc (suc (suc (suc (suc (suc (suc (suc (suc (suc (suc (suc (suc k))))))))))))))) a b (omega arith)

module _ (t : Triple) where
  -- whatever trees stand below
  pub node_modal : (φ : ℕ → Formula) → is_modality (tree (node_of t) φ) ≡ modal_kind t.0
  node_modal φ = (by_node φ (λ i. true) t.0 t.1 t.2).0

  pub node_suits : (m : ℕ → Bool) → suits_node m (node_of t) ≡ suits m t
  node_suits m = (by_node (λ i. atom bottom) m t.0 t.1 t.2).1

-- ---- connectives
alone : (a : Bool) → a ≡ both a true
unfolding both
alone true = refl
alone false = refl

exchanged : (a b c d : Bool) → both (both a b) (both c d) ≡ both (both a c) (both b d)
unfolding both
exchanged true true c d = refl
exchanged true false true d = refl
exchanged true false false d = refl
exchanged false b c d = refl

implied : (a b c d : Bool) → both a (both b c) ≡ both (both a b) (both (either a d) c)
unfolding both either
implied true b c d = refl
implied false b c d = refl

-- ---- one layer of a tree
-- a regular tree is fine and no modality
regular_fine : (p : Formula) → regular p ≡ both (not (is_modality p)) (fine p)
unfolding regular both either
regular_fine (atom top) = refl
regular_fine (atom bottom) = refl
regular_fine (atom tau) = refl
regular_fine (atom (prop i)) = refl
regular_fine (atom (nprop i)) = refl
regular_fine (atom (modal d g)) = refl
regular_fine (var v) = refl
regular_fine (op o p q) = refl
regular_fine (fix d v p) = refl

-- F of all nodes that a node names
abbrev of_named : (ℕ → Bool) → Node → Bool
of_named F (leaf p) = true
of_named F (two o a b) = both (F a) (F b)
of_named F (bind d v b) = F b

named_use : (F : ℕ → Bool) (x : Node) → T (of_named F x) → (i : ℕ) → Names x i → T (F i)
named_use F (leaf p) t i e = absurd e
named_use F (two o a b) t i (inl e) = rw e (both_left _ _ t)
named_use F (two o a b) t i (inr e) = rw e (both_right _ _ t)
named_use F (bind d v b) t i e = rw e t

named_mk : (F : ℕ → Bool) (x : Node) → ((i : ℕ) → Names x i → T (F i)) → T (of_named F x)
named_mk F (leaf p) h = tt
named_mk F (two o a b) h = both_mk _ _ (h a (inl refl)) (h b (inr refl))
named_mk F (bind d v b) h = h b refl

-- a node's tree is fine just if the node suits and the trees of the nodes that it names are fine
layer : (φ : ℕ → Formula) (x : Node) → fine (tree x φ) ≡ both (suits_node (λ i. is_modality (φ i)) x) (of_named (λ i. fine (φ i)) x)
unfolding regular either
layer φ (leaf p) = alone (fine p)
layer φ (two or a b) = ap₂ both (regular_fine (φ a)) (regular_fine (φ b)) ∙ exchanged _ _ _ _
layer φ (two and a b) = ap₂ both (regular_fine (φ a)) (regular_fine (φ b)) ∙ exchanged _ _ _ _
layer φ (two chop a b) = ap (both (is_modality (φ a))) (regular_fine (φ b)) ∙ implied (is_modality (φ a)) _ _ (regular (φ a))
layer φ (bind d v b) = regular_fine (φ b)

-- ---- the rule's nodes
module _ {c : Case} (valid : ValidRule c) where
  abbrev fine_at : ℕ → Bool
  fine_at j = fine (formula_at (node_at c) j)

  abbrev suits_at : ℕ → Bool
  suits_at j = suits (modal_at c) (at c.nodes j)

  modal_at_lem : (j : ℕ) → is_modality (formula_at (node_at c) j) ≡ modal_at c j
  unfolding formula_at node_at
  modal_at_lem j = node_modal (at c.nodes j) (lower (node_at c) j)

  fine_at_lem : (j : ℕ) → fine_at j ≡ both (suits_at j) (of_named fine_at (node_at c j))
  fine_at_lem j =
      ap fine (formula_at_node (node_at c) j (all_lower valid j)) ∙ layer (formula_at (node_at c)) (node_at c j)
      ∙ (λ z. both (suits_node (λ i. modal_at_lem i z) (node_at c j)) (of_named fine_at (node_at c j)))
      ∙ ap (λ b. both b (of_named fine_at (node_at c j))) (unfold node_at in node_suits (at c.nodes j) (modal_at c))

  fine_reached : T (fine_at c.root) → (j : ℕ) → Reached (node_at c) c.root j → T (fine_at j)
  fine_reached t _ the_root = t
  fine_reached t j (named {i} r e) = named_use fine_at (node_at c i) (both_right _ _ (subst T (fine_at_lem i) (fine_reached t i r))) j e

  reached_fine : ((j : ℕ) → Reached (node_at c) c.root j → suits_at j ≡ true) → (k j : ℕ) → j < k → Reached (node_at c) c.root j → T (fine_at j)
  reached_fine S zero j h r = absurd (not-suc-le-zero h)
  reached_fine S (suc k) j h r =
      rw (fine_at_lem j)
      (both_mk _ _ (rw (S j r) tt) (named_mk fine_at (node_at c j) (λ i e. reached_fine S k i (omega (arith, all_lower valid j i e)) (named r e))))

  pub case_regular : (regular (rule c) ≡ true) ↔ RegularNodes c
  unfolding rule
  case_regular =
      let parts : regular (rule c) ≡ both (not (modal_at c c.root)) (fine_at c.root) =
      regular_fine (rule c) ∙ (λ z. both (not (modal_at_lem c.root z)) (fine_at c.root)) in (
        λ e. let t = subst T (sym e ∙ parts) tt in record {
          root = is_false _ (T_not (modal_at c c.root) (both_left _ _ t));
          nodes = λ j r. is_true _ (both_left _ _ (subst T (fine_at_lem j) (fine_reached (both_right _ _ t) j r)));
        },
        λ P. parts ∙ is_true _ (both_mk _ _ (rw P.root tt) (reached_fine P.nodes (suc c.root) c.root (omega arith) the_root)),
      )
