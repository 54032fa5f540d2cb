-- What the rule of a valid case looks at is what occurs in the nodes that its root reaches.
-- A tree has what the trees of the named nodes have, and its own; so from the root down, one node after the other, nothing is lost and nothing joins.
use Prim.Native.Nat.{ℕ, zero, suc, ◌<◌}
use mathlib.Core.Bool.{Bool, true, false}
use mathlib.Core.Logic.{◌⊎◌, inl, inr, ◌↔◌}
use mathlib.Core.Path.{◌≡◌, refl, subst}
use native.Mathlib.Nat.{not-suc-le-zero}
use native.Mathlib.Omega.{arith}
use lib.Dec.{T, eqb→eq, eqb_refl}
use Rattle.flc.specs.Sets.{either, has, singleton}
use Rattle.flc.specs.Formula.{Formula}
use Rattle.flc.specs.Nodes.{Node, leaf, two, bind, Names, tree, formula_at}
use Rattle.flc.specs.Vocabulary.{Vocabulary, nothing, only_props, only_acts, union, vocabulary}
use Rattle.flc.proofs.Tests.{either_use, either_left, either_right}
use Rattle.flc.proofs.Masks.{has_or, has_empty, has-single}
use Rattle.flc.proofs.Unfolding.{Lower, formula_at_node}
use Rattle.case_model.specs.Kinds.{Triple, kinds, kind_at, node_of}
use Rattle.case_model.specs.Case.{Case, at, node_at, rule}
use Rattle.case_model.specs.Reach.{Reached, the_root, named}
use Rattle.case_model.specs.ModalKinds.{Modal, some_by_action, all_by_action, some_by_group, all_by_group}
use Rattle.case_model.specs.Valid.{ValidRule}
use Rattle.case_model.specs.Looking.{looked, own, LooksAt}
use Rattle.case_model.proofs.Nodes.{all_lower}

-- the propositions or the actions of a vocabulary
abbrev pub part : Bool → Vocabulary → ℕ
part true W = W.props
part false W = W.acts

-- ---- one layer of a tree
pub has-union : (b : Bool) (U W : Vocabulary) (x : ℕ) → has (part b (union U W)) x ≡ either (has (part b U) x) (has (part b W) x)
has-union true U W x = has_or _ _ x
has-union false U W x = has_or _ _ x

pub none_has : (b : Bool) (x : ℕ) → T (has (part b nothing) x) → ⊥
none_has true x u = subst T (has_empty x) u
none_has false x u = subst T (has_empty x) u

-- its own, or of a node that it names
tree_use : (b : Bool) (n : Node) (φ : ℕ → Formula) (x : ℕ) → T (has (part b (vocabulary (tree n φ))) x)
    → T (has (part b (own n)) x) ⊎ ((i : ℕ) × Names n i × T (has (part b (vocabulary (φ i))) x))
tree_use b (leaf p) φ x u = inl u
tree_use b (two o i j) φ x u =
    either_use _ _ (λ v. inr (i, inl refl, v)) (λ v. inr (j, inr refl, v))
    (subst T (has-union b (vocabulary (φ i)) (vocabulary (φ j)) x) (unfold vocabulary in u))
tree_use b (bind d v j) φ x u = inr (j, refl, unfold vocabulary in u)

tree-own : (b : Bool) (n : Node) (φ : ℕ → Formula) (x : ℕ) → T (has (part b (own n)) x) → T (has (part b (vocabulary (tree n φ))) x)
tree-own b (leaf p) φ x u = u
tree-own b (two o i j) φ x u = absurd (none_has b x u)
tree-own b (bind d v j) φ x u = absurd (none_has b x u)

tree-named : (b : Bool) (n : Node) (φ : ℕ → Formula) (x i : ℕ) → Names n i → T (has (part b (vocabulary (φ i))) x) → T (has (part b (vocabulary (tree n φ))) x)
unfolding vocabulary
tree-named b (leaf p) φ x i e u = absurd e
tree-named b (two o j k) φ x i (inl e) u = rw (has-union b (vocabulary (φ j)) (vocabulary (φ k)) x)
    (either_left _ _ (subst (λ j. T (has (part b (vocabulary (φ j))) x)) e u))
tree-named b (two o j k) φ x i (inr e) u = rw (has-union b (vocabulary (φ j)) (vocabulary (φ k)) x)
    (either_right _ _ (subst (λ j. T (has (part b (vocabulary (φ j))) x)) e u))
tree-named b (bind d v j) φ x i e u = subst (λ j. T (has (part b (vocabulary (φ j))) x)) e u

-- ---- from the root down
module _ (N : ℕ → Node) (low : (j : ℕ) → Lower N j) (b : Bool) (x : ℕ) where
  abbrev In : ℕ → Type 0
  In j = T (has (part b (vocabulary (formula_at N j))) x)

  abbrev Found : ℕ → Type 0
  Found root = (j : ℕ) × Reached N root j × T (has (part b (own (N j))) x)

  -- in the tree of the root is what is in the tree of a node that it reaches
  in_root : (root : ℕ) {j : ℕ} → Reached N root j → In j → In root
  in_root root the_root u = u
  in_root root (named {i} {j} r e) u = in_root root r (rw (formula_at_node N i (low i)) (tree-named b (N i) (formula_at N) x j e u))

  -- and what is there is found
  find : (root k j : ℕ) → j < k → Reached N root j → In j → Found root
  find root zero j h r u = absurd (not-suc-le-zero h)
  find root (suc k) j h r u = elim (tree_use b (N j) (formula_at N) x (rw (formula_at_node N j (low j)) at u)) [
    | inl v ↦ (j, r, v)
    | inr (i, e, v) ↦ find root k i (omega (arith, low j i e)) (named r e) v
  ]

  found : (root : ℕ) → In root ↔ Found root
  found root = (
    find root (suc root) root (omega arith) the_root,
    λ (j, r, u). in_root root r (rw (formula_at_node N j (low j)) (tree-own b (N j) (formula_at N) x u)),
  )

-- ---- by the numbers of the kinds
-- what a triple looks at by its kind k and operand a: nothing, the proposition a, or a group
data Sight (k a : ℕ) : Vocabulary → Type 0 where
  blind : Sight k a nothing
  proposition : (k ≡ 2) ⊎ (k ≡ 3) → Sight k a (only_props (singleton a))
  group : (d : Bool) (g : ℕ) → Modal k a d g → Sight k a (only_acts g)

sight : (k a b : ℕ) → Sight k a (own ((kind_at k).node a b))
unfolding kind_at kinds vocabulary
sight zero a b = blind
sight (suc zero) a b = blind
sight (suc (suc zero)) a b = proposition (inl refl)
sight (suc (suc (suc zero))) a b = proposition (inr refl)
sight (suc (suc (suc (suc zero)))) a b = blind
sight (suc (suc (suc (suc (suc zero))))) a b = blind
sight (suc (suc (suc (suc (suc (suc zero)))))) a b = group true (singleton a) (some_by_action a)
sight (suc (suc (suc (suc (suc (suc (suc zero))))))) a b = group false (singleton a) (all_by_action a)
sight (suc (suc (suc (suc (suc (suc (suc (suc zero)))))))) a b = blind
sight (suc (suc (suc (suc (suc (suc (suc (suc (suc zero))))))))) a b = blind
sight (suc (suc (suc (suc (suc (suc (suc (suc (suc (suc zero)))))))))) a b = blind
sight (suc (suc (suc (suc (suc (suc (suc (suc (suc (suc (suc zero))))))))))) a b = blind
sight (suc (suc (suc (suc (suc (suc (suc (suc (suc (suc (suc (suc zero)))))))))))) a b = blind
sight (suc (suc (suc (suc (suc (suc (suc (suc (suc (suc (suc (suc (suc zero))))))))))))) a b = group true a (some_by_group a)
sight (suc (suc (suc (suc (suc (suc (suc (suc (suc (suc (suc (suc (suc (suc zero)))))))))))))) a b = group false a (all_by_group a)
sight (suc (suc (suc (suc (suc (suc (suc (suc (suc (suc (suc (suc (suc (suc (suc k))))))))))))))) a b = blind

module _ (k a : ℕ) where
  prop_use : {W : Vocabulary} → Sight k a W → (i : ℕ) → T (has W.props i) → ((k ≡ 2) ⊎ (k ≡ 3)) × (a ≡ i)
  prop_use blind i u = absurd (none_has true i u)
  prop_use (proposition e) i u = (e, eqb→eq a i (subst T (has-single a i) u))
  prop_use (group d g m) i u = absurd (none_has true i u)

  act_use : {W : Vocabulary} → Sight k a W → (x : ℕ) → T (has W.acts x) → (d : Bool) × (g : ℕ) × Modal k a d g × T (has g x)
  act_use blind x u = absurd (none_has true x u)
  act_use (proposition e) x u = absurd (none_has true x u)
  act_use (group d g m) x u = (d, g, m, u)

  prop_mk : (b : ℕ) → (k ≡ 2) ⊎ (k ≡ 3) → T (has (own ((kind_at k).node a b)).props a)
  unfolding kind_at kinds vocabulary
  prop_mk b (inl e) = rw (e, has-single a a) (eqb_refl a)
  prop_mk b (inr e) = rw (e, has-single a a) (eqb_refl a)

act_mk : {k a : ℕ} {d : Bool} {g : ℕ} (b x : ℕ) → Modal k a d g → T (has g x) → T (has (own ((kind_at k).node a b)).acts x)
unfolding kind_at kinds vocabulary
act_mk b x (some_by_action a) u = u
act_mk b x (all_by_action a) u = u
act_mk b x (some_by_group g) u = u
act_mk b x (all_by_group g) u = u

-- ---- the case
module _ {c : Case} (valid : ValidRule c) where
  -- in either part of the vocabulary
  pub occurs : (b : Bool) (x : ℕ) → T (has (part b (looked c)) x) ↔ ((j : ℕ) × Reached (node_at c) c.root j × T (has (part b (own (node_at c j))) x))
  unfolding looked rule
  occurs b x = found (node_at c) (all_lower valid) b x c.root

  -- clause 4.9
  pub looks_at : LooksAt c
  unfolding node_at
  looks_at = record {
    props = λ i. (
      λ u. let (j, r, v) = (occurs true i).0 u in
          let t : Triple = at c.nodes j in
          (j, r, prop_use t.0 t.1 (sight t.0 t.1 t.2) i v),
      λ (j, r, (k, e)).
          let t : Triple = at c.nodes j in
          (occurs true i).1 (j, r, subst (λ i. T (has (own (node_of t)).props i)) e (prop_mk t.0 t.1 t.2 k)),
    );
    acts = λ a. (
      λ u. let (j, r, v) = (occurs false a).0 u in
          let t : Triple = at c.nodes j in
          (j, r, act_use t.0 t.1 (sight t.0 t.1 t.2) a v),
      λ (j, r, (d, g, m, u)). (occurs false a).1 (j, r, act_mk (at c.nodes j).2 a m u),
    );
  }
