-- Refreshing the nodes below k: the nodes below the last one, then that one, or not. A node's set is made of the sets of lower nodes.
-- A node outside what is active need not be right; one that depends only on the old is right already.
-- Until its turn comes a node keeps its old block, so that of what has grown each node is told.
use mathlib.Core.Path.{◌≡◌, refl, sym, ap, ap₂, ◌∙◌, subst}
use mathlib.Core.Bool.{Bool}
use Prim.Native.Nat.{ℕ, suc, ◌^◌, ◌≤◌, ◌<◌}
use native.Mathlib.Decide.{ℕ_discrete}
use native.Mathlib.Nat.{not-suc-le-zero}
use native.Mathlib.Omega.{arith}
use lib.Dec.{T, eqb_refl}
use Rattle.flc.specs.Sets.{both, either, has, set_of}
use Rattle.flc.specs.Formula.{or, and, chop, atom, mean_atom, free}
use Rattle.flc.specs.Nodes.{Node, leaf, two, bind, tree, lower, formula_at}
use Rattle.flc.proofs.Masks.{set_of_lt}
use Rattle.flc.proofs.Unfolding.{Lower, formula_at_node}
use Rattle.case_model.proofs.Nodes.{Fits, fits-constant, fits_variable, fits_pair, fits_binder, fits_names}
use Rattle.regular_model.specs.Values.{modality_of, value, no_sets}
use Rattle.regular_model.specs.Blocks.{Frame, Within, modality_at, made, Sets, Matches}
use Rattle.regular_model.specs.Blocks.{RightAt, Right, Older, Ready, Kept, Refreshed, Computed, Placed}
use Rattle.regular_model.proofs.Framed.{Framed}
use Rattle.regular_model.proofs.Values.{no_sets_small, value_small, atom_good}

-- ---- blocks
pub kept-up : {F : Frame} {B C : ℕ → ℕ} {j k : ℕ} → Kept F B C j → j ≤ k → Kept F B C k
kept-up K l = record { small = K.small; above = λ i h. K.above i (omega arith) }

pub kept_trans : {F : Frame} {B C D : ℕ → ℕ} {j k : ℕ} → Kept F B C j → Kept F C D k → j ≤ k → Kept F B D k
kept_trans K H l = record { small = H.small; above = λ i h. H.above i h ∙ K.above i (omega arith) }

pub placed-kept : (F : Frame) {B C : ℕ → ℕ} {j s : ℕ} → Placed B C j s → Sets F B → s < 2 ^ F.L.n → Kept F B C (suc j)
placed-kept F {B} {C} {j} P h l = record {
  small = λ i. elim (ℕ_discrete i j) [
    | yes e ↦ subst (λ i. C i < 2 ^ F.L.n) (sym e) (rw P.inside l)
    | no e ↦ rw (P.outside i e) (h i)
  ];
  above = λ i k. P.outside i (λ e. omega arith);
}

-- active variables' sets stay where their binders' blocks do
pub matches_kept : {F : Frame} {B C : ℕ → ℕ} {j : ℕ} (c : ℕ → ℕ) (act : ℕ) (k : ℕ) → Kept F B C j → j ≤ k
    → ((v : ℕ) → v < 16 → T (has act v) → (k ≤ F.home v) × (F.home v < F.m)) → Matches F c act B → Matches F c act C
matches_kept {F} c act k K l A M v h t = let (a, b) = A v h t in K.above (F.home v) (omega arith) ∙ M v h t

-- one block more
right_more : (F : Frame) {B C : ℕ → ℕ} {j s : ℕ} (c : ℕ → ℕ) (act : ℕ) → Placed B C j s → Right F c act B j
    → s ≡ value F.L (formula_at F.N j) c → Right F c act C (suc j)
right_more F {B} {C} {j} c act P R e i l h = elim (ℕ_discrete i j) [
  | yes q ↦ subst (λ i. RightAt F c C i) (sym q) (P.inside ∙ e)
  | no q ↦ P.outside i q ∙ R i (omega arith) h
]

-- ---- one node
module _ {F : Frame} (framed : Framed F) where
  low : (j : ℕ) → j < F.m → Lower F.N j
  low j h = fits_names (F.N j) (framed.fits j h)

  -- a node's set, from the shape of the node
  pub value_node : (j : ℕ) → j < F.m → (c : ℕ → ℕ) → value F.L (formula_at F.N j) c ≡ value F.L (tree (F.N j) (formula_at F.N)) c
  value_node j h c = ap (λ φ. value F.L φ c) (formula_at_node F.N j (low j h))

  left_node : (a : ℕ) → modality_at (F.N a) ≡ modality_of (formula_at F.N a)
  unfolding formula_at
  left_node a = go (F.N a)
    where
      go : (y : Node) → modality_at y ≡ modality_of (tree y (lower F.N a))
      go (leaf p) = refl
      go (two o a b) = refl
      go (bind d v b) = refl

  -- what is made is a set
  pub made_small : (B : ℕ → ℕ) → Sets F B → (j : ℕ) → j < F.m → made F (F.N j) B < 2 ^ F.L.n
  unfolding value
  made_small B S j h = go (F.N j) (framed.fits j h)
    where
      go : (x : Node) → Fits j x → made F x B < 2 ^ F.L.n
      go _ (fits-constant a) = value_small F.L (atom a) no_sets (no_sets_small F.L.n)
      go _ (fits_variable v l) = S _
      go _ (fits_pair or a b l k) = set_of_lt F.L.n _
      go _ (fits_pair and a b l k) = set_of_lt F.L.n _
      go _ (fits_pair chop a b l k) = (atom_good F.L (modality_at (F.N a))).small (B b) (S b)
      go _ (fits_binder d v b l k) = S b

  -- what is made for a node that is no binder is its set
  made_right : (c : ℕ → ℕ) (act : ℕ) (B : ℕ → ℕ) (j : ℕ) → j < F.m → ((d : Bool) (v b : ℕ) → F.N j ≡ bind d v b → ⊥)
      → Within F j act → Matches F c act B → Right F c act B j → made F (F.N j) B ≡ value F.L (formula_at F.N j) c
  unfolding value
  made_right c act B j h plain u M R = go (F.N j) (framed.fits j h) refl ∙ sym (value_node j h c)
    where
      named : (a : ℕ) → a < j → Within F a (F.scope j) → B a ≡ value F.L (formula_at F.N a) c
      named a l w = R a l (λ s i t. u s i (w s i t))

      go : (x : Node) → Fits j x → F.N j ≡ x → made F x B ≡ value F.L (tree x (formula_at F.N)) c
      go _ (fits-constant a) e = refl
      go _ (fits_variable v l) e =
          let t : T (free v (formula_at F.N j)) = subst (λ φ. T (free v φ))
          (sym (formula_at_node F.N j (low j h) ∙ ap (λ x. tree x (formula_at F.N)) e)) (unfold free in eqb_refl v) in
          let (k, s) = framed.frees j v h t in
          M v k (u v (omega arith) s)
      go _ (fits_pair or a b l k) e =
          ap₂ (λ x y. set_of F.L.n (λ s. either (has x s) (has y s)))
          (named a l (framed.names j h e).0) (named b k (framed.names j h e).1)
      go _ (fits_pair and a b l k) e =
          ap₂ (λ x y. set_of F.L.n (λ s. both (has x s) (has y s)))
          (named a l (framed.names j h e).0) (named b k (framed.names j h e).1)
      go _ (fits_pair chop a b l k) e = ap₂ (mean_atom F.L) (left_node a) (named b k (framed.names j h e).1)
      go _ (fits_binder d v b l k) e = absurd (plain d v b e)

  -- so it is computed by it
  pub computed_plain : {B C : ℕ → ℕ} {j : ℕ} (act : ℕ) (grown : ℕ) → Sets F B → j < F.m → ((d : Bool) (v b : ℕ) → F.N j ≡ bind d v b → ⊥)
      → Within F j act → Placed B C j (made F (F.N j) B) → Computed F B C j act grown
  computed_plain {B} {C} {j} act grown S h plain u P = record {
    kept = placed-kept F P S (made_small B S j h);
    right = λ c small M R G. right_more F c act P R (made_right c act B j h plain u M R);
  }

-- ---- the recursion
pub refresh_none : (F : Frame) (B : ℕ → ℕ) (old act : ℕ) (grown : ℕ) → Sets F B → Refreshed F B B 0 old act grown
refresh_none F B old act grown S = record {
  kept = record { small = S; above = λ i h. refl };
  right = λ c small M R G i l. absurd (not-suc-le-zero l);
}

-- less was right then too
older_map : {F : Frame} {d : Bool} {c : ℕ → ℕ} {P Q : (ℕ → ℕ) → Type 0} → ((e : ℕ → ℕ) → P e → Q e) → Older F d c P → Older F d c Q
older_map h O = record { sets = O.sets; small = O.small; below = O.below; held = h O.sets O.held }

pub ready_down : {F : Frame} {B : ℕ → ℕ} {j : ℕ} {act : ℕ} → Ready F B (suc j) act → Ready F B j act
ready_down R = record {
  below = omega (arith, R.below);
  small = R.small;
  active = λ v h t. let (a, b) = R.active v h t in (omega arith, b);
}

module _ {F : Frame} {B C : ℕ → ℕ} {j : ℕ} {old act : ℕ} {grown : ℕ} (S : Refreshed F B C j old act grown) where
  -- the last node too, if it is right
  last : ((c : ℕ → ℕ) → Right F c old B (suc j) → Within F j act → RightAt F c C j) → Refreshed F B C (suc j) old act grown
  last h = record {
    kept = kept-up S.kept (omega arith);
    right = λ c small M R G i l u. elim (ℕ_discrete i j) [
      | yes q ↦ subst (λ i. RightAt F c C i) (sym q) (h c R (subst (λ i. Within F i act) q u))
      | no q ↦ S.right c small M (λ i l. R i (omega arith)) (λ g. older_map (λ e Q i l. Q i (omega arith)) (G g)) i (omega arith) u
    ];
  }

  pub skip_out : (Within F j act → ⊥) → Refreshed F B C (suc j) old act grown
  skip_out n = last (λ c R u. absurd (n u))

  pub skip_old : Within F j old → Refreshed F B C (suc j) old act grown
  skip_old q = last (λ c R u. S.kept.above j (omega arith) ∙ R j (omega arith) q)

  -- and it is if it is computed
  pub one_more : {D : ℕ → ℕ} → Ready F B (suc j) act → Within F j act → Computed F C D j act grown → Refreshed F B D (suc j) old act grown
  one_more Y q K = record {
    kept = kept_trans S.kept K.kept (omega arith);
    right = λ c small M R G. K.right c small (matches_kept c act (suc j) S.kept (omega arith) Y.active M)
        (S.right c small M (λ i l. R i (omega arith)) (λ g. older_map (λ e Q i l. Q i (omega arith)) (G g)))
        (λ g. older_map (λ e Q. S.kept.above j (omega arith) ∙ Q j (omega arith) q) (G g));
  }
