-- Relations between rules that a rewriting keeps: two of them, the same meaning and no new free variable, and one induction for all of them.
-- Such a relation holds of both sides of every law and may be used inside a rule; so it holds of every node and what it became.
use Prim.Native.Nat.{ℕ, zero, suc, ◌≤◌, ◌<◌}
use mathlib.Core.Bool.{Bool}
use mathlib.Core.Logic.{inl, inr}
use mathlib.Core.Path.{◌≡◌, refl, sym, subst₂}
use native.Mathlib.Decide.{ℕ_discrete}
use native.Mathlib.Nat.{not-suc-le-zero}
use native.Mathlib.Omega.{arith}
use lib.Dec.{T}
use Rattle.flc.specs.Formula.{Table, Atom, tau, Op, chop, Formula, atom, op, fix, free}
use Rattle.flc.specs.Nodes.{Node, leaf, two, bind, tree, formula_at, Names}
use Rattle.flc.proofs.Tests.{both_left, both_right, both_mk, either_use, either_left, either_right}
use Rattle.flc.proofs.Unfolding.{Lower, formula_at_node}
use Rattle.flc.proofs.Laws.{Same, Constant, Pointwise, same_refl, same_sym, same_trans, same_op, same_fix, law_1, law_2, law_3, law_4, law_6, law_8, law_9}

-- clause 5.1: laws 6 and 7 in one line, and so 8 and 9 for or and and
pub record Lawful (R : Formula → Formula → Type 0) : Type 0 where
  pub self : (p : Formula) → R p p
  pub then : (p q r : Formula) → R p q → R q r → R p r
  pub in_op : (o : Op) (p p' q q' : Formula) → R p p' → R q q' → R (op o p q) (op o p' q')
  pub in_fix : (d : Bool) (v : ℕ) (p q : Formula) → R p q → R (fix d v p) (fix d v q)
  pub law1 : (p : Formula) → R (op chop (atom tau) p) p
  pub law2 : (p : Formula) → R (op chop p (atom tau)) p
  pub law3 : (a : Atom) → Constant a → (p : Formula) → R (op chop (atom a) p) (atom a)
  pub law4 : (p q r : Formula) → R (op chop (op chop p q) r) (op chop p (op chop q r))
  pub law5 : (p q r : Formula) → R (op chop p (op chop q r)) (op chop (op chop p q) r)
  pub law6 : (o : Op) → Pointwise o → (p q r : Formula) → R (op chop (op o p q) r) (op o (op chop p r) (op chop q r))
  pub law8 : (o : Op) → Pointwise o → (p : Formula) → R (op o p p) p
  pub law9 : (o : Op) → Pointwise o → (p q : Formula) → R (op o p q) (op o q p)

-- the same meaning
pub same_lawful : (L : Table) → Lawful (Same L)
same_lawful L = record {
  self = same_refl L;
  then = same_trans L;
  in_op = same_op L;
  in_fix = same_fix L;
  law1 = law_1 L;
  law2 = law_2 L;
  law3 = law_3 L;
  law4 = law_4 L;
  law5 = λ p q r. same_sym L _ _ (law_4 L p q r);
  law6 = law_6 L;
  law8 = law_8 L;
  law9 = law_9 L;
}

-- no free variable that was not free before
abbrev pub Frees : Formula → Formula → Type 0
Frees p q = (w : ℕ) → T (free w q) → T (free w p)

pub frees_lawful : Lawful Frees
unfolding free
frees_lawful = record {
  self = λ p w t. t;
  then = λ p q r h k w t. h w (k w t);
  in_op = λ o p p' q q' h k w. either_use _ _ (λ t. either_left _ _ (h w t)) (λ t. either_right _ _ (k w t));
  in_fix = λ d v p q h w t. both_mk _ _ (both_left _ _ t) (h w (both_right _ _ t));
  law1 = λ p w t. either_right _ _ t;
  law2 = λ p w t. either_left _ _ t;
  law3 = λ a c p w t. absurd t;
  law4 = λ p q r w. either_use _ _ (λ t. either_left _ _ (either_left _ _ t))
      (either_use _ _ (λ t. either_left _ _ (either_right _ _ t)) (λ t. either_right _ _ t));
  law5 = λ p q r w. either_use _ _ (either_use _ _ (λ t. either_left _ _ t) (λ t. either_right _ _ (either_left _ _ t)))
      (λ t. either_right _ _ (either_right _ _ t));
  law6 = λ o c p q r w. either_use _ _
      (either_use _ _ (λ t. either_left _ _ (either_left _ _ t)) (λ t. either_right _ _ t))
      (either_use _ _ (λ t. either_left _ _ (either_right _ _ t)) (λ t. either_right _ _ t));
  law8 = λ o c p w t. either_left _ _ t;
  law9 = λ o c p q w. either_use _ _ (λ t. either_right _ _ t) (λ t. either_left _ _ t);
}

module _ {R : Formula → Formula → Type 0} (K : Lawful R) where
  -- inside a node
  in_tree : (x : Node) (φ ψ : ℕ → Formula) → ((i : ℕ) → Names x i → R (φ i) (ψ i)) → R (tree x φ) (tree x ψ)
  in_tree (leaf p) φ ψ h = K.self p
  in_tree (two o a b) φ ψ h = K.in_op o (φ a) (ψ a) (φ b) (ψ b) (h a (inl refl)) (h b (inr refl))
  in_tree (bind d v b) φ ψ h = K.in_fix d v (φ b) (ψ b) (h b refl)

  -- node i has gone to g i and names what became of the nodes that it named, all but node j, which a law has changed
  module _ (N : ℕ → Node) (ψ : ℕ → Formula) (g : ℕ → ℕ) (m j : ℕ)
      (low : (i : ℕ) → i < m → Lower N i)
      (others : (i : ℕ) → i < m → (i ≡ j → ⊥) → ψ (g i) ≡ tree (N i) (λ x. ψ (g x)))
      (law : ((i : ℕ) → i < j → R (formula_at N i) (ψ (g i))) → R (formula_at N j) (ψ (g j))) where
    up_to : (b : ℕ) → b ≤ m → (i : ℕ) → i < b → R (formula_at N i) (ψ (g i))
    up_to zero h i k = absurd (not-suc-le-zero k)
    up_to (suc b) h i k = elim (ℕ_discrete i j) [
      | yes e ↦ rw e (law (λ x l. up_to b (omega arith) x (omega arith)))
      | no n ↦ subst₂ R (sym (formula_at_node N i (low i (omega arith)))) (sym (others i (omega arith) n))
          (in_tree (N i) (formula_at N) (λ x. ψ (g x)) (λ x q. up_to b (omega arith) x (omega (arith, low i (omega arith) x q))))
    ]

    pub rewritten : (i : ℕ) → i < m → R (formula_at N i) (ψ (g i))
    rewritten = up_to m (omega arith)
