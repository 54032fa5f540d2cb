-- Rules with the same meaning: the nine laws, and that a part may give way to one that means the same.
-- Laws 1 to 7 hold by computation; 8 and 9 by the laws of the connectives at each state. What holds of or and of and is said once.
use mathlib.Core.Path.{◌≡◌, refl, sym, ap, ap₂, ◌∙◌, subst₂}
use mathlib.Core.Logic.{inl, inr}
use mathlib.Core.Bool.{Bool, true, false}
use Prim.Native.Nat.{ℕ, ◌^◌, ◌<◌}
use Rattle.flc.specs.Sets.{both, either, has, set_of}
use Rattle.flc.specs.Formula.{Table, Atom, top, bottom, tau, prop, nprop, modal, Op, or, and, chop, Formula, atom, op, fix, mean_atom, Env, put, mean}
use Rattle.flc.specs.Nodes.{Node, leaf, two, bind, tree, Names}
use Rattle.flc.proofs.Masks.{set_of_ext, set_of-has}
use Rattle.flc.proofs.Order.{below_antisym, agree-below}
use Rattle.flc.specs.Order.{Agree, GoodEnv}
use Rattle.flc.proofs.FixedPoints.{fixed_good, fixed-rises}
use Rattle.flc.proofs.Meanings.{put_good, mean_fix, mean_small, mean_steady}

-- p and q mean the same over L
abbrev pub Same : Table → Formula → Formula → Type 0
Same L p q = (ρ : Env) → GoodEnv L.n ρ → Agree L.n (mean L p ρ) (mean L q ρ)

-- kinds 0 to 3
abbrev pub Constant : Atom → Type 0
Constant top = Unit {0}
Constant bottom = Unit {0}
Constant (prop i) = Unit {0}
Constant (nprop i) = Unit {0}
Constant tau = ⊥
Constant (modal d g) = ⊥

-- or and and
abbrev pub Pointwise : Op → Type 0
Pointwise or = Unit {0}
Pointwise and = Unit {0}
Pointwise chop = ⊥

-- ---- what the laws need of the connectives
either_self : (b : Bool) → either b b ≡ b
unfolding either
either_self true = refl
either_self false = refl

both_self : (b : Bool) → both b b ≡ b
unfolding both
both_self true = refl
both_self false = refl

pub either_swap : (a b : Bool) → either a b ≡ either b a
unfolding either
either_swap true true = refl
either_swap true false = refl
either_swap false true = refl
either_swap false false = refl

both_swap : (a b : Bool) → both a b ≡ both b a
unfolding both
both_swap true true = refl
both_swap true false = refl
both_swap false true = refl
both_swap false false = refl

module _ (L : Table) where
  -- an equivalence
  pub same_refl : (p : Formula) → Same L p p
  same_refl p ρ R x i = refl

  pub same_sym : (p q : Formula) → Same L p q → Same L q p
  same_sym p q h ρ R x i = sym (h ρ R x i)

  pub same_trans : (p q r : Formula) → Same L p q → Same L q r → Same L p r
  same_trans p q r h k ρ R x i = h ρ R x i ∙ k ρ R x i

  -- ---- the laws

  -- law 1: τ;A = A
  pub law_1 : (p : Formula) → Same L (op chop (atom tau) p) p
  unfolding mean mean_atom
  law_1 p ρ R x i = refl

  -- law 2: A;τ = A
  pub law_2 : (p : Formula) → Same L (op chop p (atom tau)) p
  unfolding mean mean_atom
  law_2 p ρ R x i = refl

  -- law 3: q;A = q
  pub law_3 : (a : Atom) → Constant a → (p : Formula) → Same L (op chop (atom a) p) (atom a)
  unfolding mean mean_atom
  law_3 top c p ρ R x i = refl
  law_3 bottom c p ρ R x i = refl
  law_3 (prop a) c p ρ R x i = refl
  law_3 (nprop a) c p ρ R x i = refl
  law_3 tau c p ρ R x i = absurd c
  law_3 (modal d g) c p ρ R x i = absurd c

  -- law 4: (A;B);C = A;(B;C); from right to left it is law 5
  pub law_4 : (p q r : Formula) → Same L (op chop (op chop p q) r) (op chop p (op chop q r))
  unfolding mean
  law_4 p q r ρ R x i = refl

  -- law 6: (A or B);C = (A;C) or (B;C); for and it is law 7
  pub law_6 : (o : Op) → Pointwise o → (p q r : Formula) → Same L (op chop (op o p q) r) (op o (op chop p r) (op chop q r))
  unfolding mean
  law_6 or c p q r ρ R x i = refl
  law_6 and c p q r ρ R x i = refl
  law_6 chop c p q r ρ R x i = absurd c

  -- a set with itself
  self : (c : Bool → Bool → Bool) → ((b : Bool) → c b b ≡ b) → (n x : ℕ) → x < 2 ^ n → set_of n (λ s. c (has x s) (has x s)) ≡ x
  self c e n x i = set_of_ext n _ _ (λ s k. e (has x s)) ∙ set_of-has n x i

  -- law 8: A or A = A; so with and
  pub law_8 : (o : Op) → Pointwise o → (p : Formula) → Same L (op o p p) p
  unfolding mean
  law_8 or c p ρ R x i = self either either_self L.n (mean L p ρ x) (mean_small L p ρ R x i)
  law_8 and c p ρ R x i = self both both_self L.n (mean L p ρ x) (mean_small L p ρ R x i)
  law_8 chop c p ρ R x i = absurd c

  -- law 9: A or B = B or A; so with and
  pub law_9 : (o : Op) → Pointwise o → (p q : Formula) → Same L (op o p q) (op o q p)
  unfolding mean
  law_9 or c p q ρ R x i = set_of_ext L.n _ _ (λ s k. either_swap (has (mean L p ρ x) s) (has (mean L q ρ x) s))
  law_9 and c p q ρ R x i = set_of_ext L.n _ _ (λ s k. both_swap (has (mean L p ρ x) s) (has (mean L q ρ x) s))
  law_9 chop c p q ρ R x i = absurd c

  -- ---- a part may give way to one that means the same

  -- in an operator
  pub same_op : (o : Op) (p p' q q' : Formula) → Same L p p' → Same L q q' → Same L (op o p q) (op o p' q')
  unfolding mean
  same_op or p p' q q' h k ρ R x i = ap₂ (λ u v. set_of L.n (λ s. either (has u s) (has v s))) (h ρ R x i) (k ρ R x i)
  same_op and p p' q q' h k ρ R x i = ap₂ (λ u v. set_of L.n (λ s. both (has u s) (has v s))) (h ρ R x i) (k ρ R x i)
  same_op chop p p' q q' h k ρ R x i = ap (mean L p ρ) (k ρ R x i) ∙ h ρ R (mean L q' ρ x) (mean_small L q' ρ R x i)

  -- in a binder
  pub same_fix : (d : Bool) (v : ℕ) (p q : Formula) → Same L p q → Same L (fix d v p) (fix d v q)
  same_fix d v p q h ρ R =
      subst₂ (Agree L.n) (sym (mean_fix L d v p ρ)) (sym (mean_fix L d v q ρ))
      (below_antisym true (fixed_good d (mean_steady L p v ρ R)) (fixed_good d (mean_steady L q v ρ R))
      (fixed-rises d (mean_steady L p v ρ R) (mean_steady L q v ρ R) (λ f F. agree-below true L.n _ _ (h (put ρ v f) (put_good ρ v R F))))
      (fixed-rises d (mean_steady L q v ρ R) (mean_steady L p v ρ R) (λ f F. agree-below true L.n _ _ (same_sym p q h (put ρ v f) (put_good ρ v R F)))))

  -- in a node
  pub same_tree : (x : Node) (φ ψ : ℕ → Formula) → ((i : ℕ) → Names x i → Same L (φ i) (ψ i)) → Same L (tree x φ) (tree x ψ)
  same_tree (leaf p) φ ψ h = same_refl p
  same_tree (two o a b) φ ψ h = same_op o (φ a) (ψ a) (φ b) (ψ b) (h a (inl refl)) (h b (inr refl))
  same_tree (bind d v b) φ ψ h = same_fix d v (φ b) (ψ b) (h b refl)
