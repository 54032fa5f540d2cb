-- A binder's loop: its block goes through the iterates of the body, and one that is as the next is the fixed point; after n rounds it is so too.
-- One round computes the lower nodes with the last iterate for the variable; what does not depend on the variable stays right.
-- As the iterates rise, the lower nodes are then those of sets below the next. The loop begins with the old block or with no states (all states).
use mathlib.Core.Path.{◌≡◌, refl, sym, ap, ◌∙◌, subst}
use mathlib.Core.Bool.{Bool, true, false, cond}
use Prim.Native.Nat.{ℕ, suc, ◌^◌, ◌≤◌, ◌<◌}
use native.Mathlib.Decide.{ℕ_discrete}
use native.Mathlib.Nat.{not-suc-le-zero}
use native.Mathlib.Omega.{arith}
use borrow.Author.Tests.{eq-eqb, ne_eqb}
use lib.Dec.{T, eqb, eqb→eq, eqb_refl}
use Rattle.flc.specs.Formula.{fix}
use Rattle.flc.specs.Nodes.{Node, bind, tree, formula_at}
use Rattle.flc.specs.Sets.{has}
use Rattle.flc.proofs.Tests.{either_left, either_right, either_use}
use Rattle.flc.proofs.Masks.{has_or, has-single}
use Rattle.flc.specs.Order.{Sub, Good}
use Rattle.flc.specs.Iterates.{iterate}
use Rattle.case_model.proofs.Nodes.{Fits, fits-constant, fits_variable, fits_pair, fits_binder}
use Rattle.regular_model.specs.Values.{begin, given, value, Climbing}
use Rattle.regular_model.specs.Blocks.{Frame, wide, Within, Matches, RightAt, Right, Older, Grown}
use Rattle.regular_model.specs.Blocks.{Ready, Kept, Refreshed, Computed, body_of, Placed, Turned, Turning}
use Rattle.regular_model.proofs.Framed.{Framed}
use Rattle.regular_model.proofs.Iterates.{begin_small, iterated_small, iterated_rises, iterated_settled, begin_climbing}
use Rattle.regular_model.proofs.Values.{Small, given_two, given_small, value_good, value-free, fix_climbing, fix_stops}
use Rattle.regular_model.proofs.Blocks.{kept_trans, placed-kept, matches_kept, value_node}

given_same : (c : ℕ → ℕ) (v s : ℕ) → given c v s v ≡ s
unfolding given
given_same c v s = rw (eq-eqb v v refl)

given_other : (c : ℕ → ℕ) (v u s : ℕ) → (u ≡ v → ⊥) → given c v s u ≡ c u
unfolding given
given_other c v u s h = rw (ne_eqb u v h)

wide_use : {Q : Type 0} (act v u : ℕ) → (T (has act u) → Q) → (u ≡ v → Q) → T (has (wide act v) u) → Q
wide_use act v u f g t = either_use _ _ f (λ e. g (sym (eqb→eq v u (subst T (has-single v u) e)))) (subst T (has_or act (2 ^ v) u) t)

wide_old : (act v u : ℕ) → T (has act u) → T (has (wide act v) u)
wide_old act v u t = rw (has_or act (2 ^ v) u) (either_left _ _ t)

wide_new : (act v u : ℕ) → u ≡ v → T (has (wide act v) u)
wide_new act v u e = rw (has_or act (2 ^ v) u, has-single v u, e) (either_right (has act v) _ (eqb_refl v))

-- binder j, whose turn it is
module _ {F : Frame} {B : ℕ → ℕ} {j : ℕ} {act : ℕ} (W : Framed F) (Y : Ready F B (suc j) act) (u : Within F j act)
    (d : Bool) (v b : ℕ) (e : F.N j ≡ bind d v b) where
  there : j < F.m
  there = Y.below

  body_low : b < j
  body_low = go (F.N j) (W.fits j there) e
    where
      go : (x : Node) → Fits j x → x ≡ bind d v b → b < j
      go _ (fits-constant y) q = absurd (let z : ◌≡◌ {A = ℕ} 0 1 = cc in omega arith)
      go _ (fits_variable w l) q = absurd (let z : ◌≡◌ {A = ℕ} 0 1 = cc in omega arith)
      go _ (fits_pair o f g h l) q = absurd (let z : ◌≡◌ {A = ℕ} 0 1 = cc in omega arith)
      go _ (fits_binder f w g h l) q = let z : g ≡ b = cc in omega arith

  here : F.home v ≡ j
  here = W.homes j there e

  -- the variable is not active
  inactive : (w : ℕ) → w < 16 → T (has act w) → w ≡ v → ⊥
  inactive w l t q = let (a, z) = Y.active w l t in omega (arith, here, ap F.home q)

  -- what the recursion needs
  pub wide_ready : {C : ℕ → ℕ} → Kept F B C (suc j) → Ready F C j (wide act v)
  wide_ready K = record {
    below = omega (arith, there);
    small = K.small;
    active = λ w l. wide_use act v w (λ t. let (a, z) = Y.active w l t in (omega arith, z)) (λ q. rw (q, here) (omega arith, there));
  }

  -- a node that depends only on what is active does not see the variable
  unseen : (c : ℕ → ℕ) (s i : ℕ) → i < j → Within F i act → value F.L (formula_at F.N i) c ≡ value F.L (formula_at F.N i) (given c v s)
  unseen c s i l h = value-free F.L (formula_at F.N i) c (given c v s) (λ w t.
      let (k, a) = W.frees i w (omega (arith, there)) t in
      sym (given_other c v w s (inactive w k (h w (omega arith) a))))

  -- the binder's set, from its body
  binder_value : (c : ℕ → ℕ) → value F.L (formula_at F.N j) c ≡ value F.L (fix d v (formula_at F.N b)) c
  binder_value c = value_node W j there c ∙ ap (λ x. value F.L (tree x (formula_at F.N)) c) e

  -- ---- one round: from the blocks C, the lower nodes to D, the binder's block to E
  module _ {C D E : ℕ → ℕ} {r grown : ℕ} (K : Kept F B C (suc j)) (R : Refreshed F C D j act (wide act v) grown) (P : Placed D E j (D b))
      (c : ℕ → ℕ) (small : Small F.L.n c) (M : Matches F c act B) (Z : Climbing d F.L.n (body_of F c v b) (B j))
      (U : Turned F c act C j v b (B j) r grown) where
    G : Good F.L.n (body_of F c v b)
    G = value_good F.L (formula_at F.N b) v c small

    abbrev c' : ℕ → ℕ
    c' = given c v (iterate (body_of F c v b) (B j) r)

    small' : Small F.L.n c'
    small' = given_small F.L.n c v _ small (iterated_small G r (B j) Z.small)

    matches : Matches F c' (wide act v) C
    matches w l = wide_use act v w
        (λ t. let (a, z) = Y.active w l t in K.above (F.home w) a ∙ M w l t ∙ sym (given_other c v w _ (inactive w l t)))
        (λ q. subst (λ w. C (F.home w) ≡ c' w) (sym q) (ap C here ∙ U.now ∙ sym (given_same c v _)))

    lower : Right F c' (wide act v) D j
    lower = R.right c' small' matches (λ i l h. U.right i l h ∙ unseen c _ i l h) U.older

    -- the body's block is the next iterate, the binder's is still the last
    next : D b ≡ iterate (body_of F c v b) (B j) (suc r)
    unfolding iterate
    next = lower b body_low (λ s i t. either_use _ _ (λ a. wide_old act v s (u s i a)) (λ q. wide_new act v s (eqb→eq s v q)) (W.body j there e s i t))

    last : D j ≡ iterate (body_of F c v b) (B j) r
    last = R.kept.above j (omega arith) ∙ U.now

    lower_still : Right F c' (wide act v) E j
    lower_still i l h = P.outside i (λ q. omega arith) ∙ lower i l h

    round_right : Right F c act E j
    round_right i l h = lower_still i l (λ s i t. wide_old act v s (h s i t)) ∙ sym (unseen c _ i l h)

    -- only the binder's set has moved since, and it rose
    round_older : Older F d (given c v (iterate (body_of F c v b) (B j) (suc r))) (λ e. Right F e (wide act v) E j)
    round_older = record {
      sets = c';
      small = small';
      below = λ w. given_two (Sub d F.L.n) c c v w _ _ (iterated_rises d G (B j) Z.small Z.first r) (λ t s k h. h);
      held = lower_still;
    }

  -- ---- the loop, from where it began

  -- where the block is a fixed point among the iterates, the binder is right
  abbrev Ends : (ℕ → ℕ) → Type 0
  Ends E = (c : ℕ → ℕ) → Small F.L.n c → Matches F c act B → Right F c act B j → Climbing d F.L.n (body_of F c v b) (B j) → Right F c act E (suc j)

  stands : (E : ℕ → ℕ) (r : ℕ) (c : ℕ → ℕ) → Small F.L.n c → Climbing d F.L.n (body_of F c v b) (B j) → Right F c act E j
      → E j ≡ iterate (body_of F c v b) (B j) r → body_of F c v b (iterate (body_of F c v b) (B j) r) ≡ iterate (body_of F c v b) (B j) r
      → Right F c act E (suc j)
  stands E r c small Z R now still i l h = elim (ℕ_discrete i j) [
    | yes q ↦ subst (λ i. RightAt F c E i) (sym q)
        (now ∙ fix_stops F.L d v (formula_at F.N b) c small (B j) r Z still ∙ sym (binder_value c))
    | no q ↦ R i (omega arith) h
  ]

  pub turning_start : Turning F B B j act d v b 0 0
  unfolding iterate
  turning_start = record {
    kept = record { small = Y.small; above = λ i h. refl };
    turned = λ c small M R Z. record { right = R; now = refl; older = λ l. absurd (not-suc-le-zero l) };
  }

  module _ {C D E : ℕ → ℕ} {r grown : ℕ} (G : Turning F B C j act d v b r grown) (R : Refreshed F C D j act (wide act v) grown) (P : Placed D E j (D b)) where
    round_kept : Kept F B E (suc j)
    round_kept = kept_trans G.kept (kept_trans R.kept (placed-kept F P R.kept.small (R.kept.small b)) (omega arith)) (omega arith)

    -- one round more
    pub turning_again : (way : ℕ) → eqb way 1 ≡ d → Turning F B E j act d v b (suc r) way
    turning_again way q = record {
      kept = round_kept;
      turned = λ c small M S Z.
          let U = G.turned c small M S Z in
          record {
            right = round_right G.kept R P c small M Z U;
            now = P.inside ∙ next G.kept R P c small M Z U;
            older = λ l. subst (λ d. Older F d (given c v (iterate (body_of F c v b) (B j) (suc r))) (λ e. Right F e (wide act v) E j)) (sym q)
                (round_older G.kept R P c small M Z U);
          };
    }

    -- nothing changed
    settled_early : D b ≡ D j → Ends E
    unfolding iterate
    settled_early q c small M S Z =
        let U = G.turned c small M S Z in
        let z = sym (next G.kept R P c small M Z U) ∙ q ∙ last G.kept R P c small M Z U in
        stands E r c small Z (round_right G.kept R P c small M Z U) (P.inside ∙ q ∙ last G.kept R P c small M Z U) z

  -- n rounds are over
  settled_late : {C : ℕ → ℕ} {r grown : ℕ} → Turning F B C j act d v b r grown → F.L.n ≤ r → Ends C
  settled_late {C} {r} G l c small M S Z =
      let U = G.turned c small M S Z in
      stands C r c small Z U.right U.now (iterated_settled d (value_good F.L (formula_at F.N b) v c small) (B j) Z.small Z.first r l)

-- ---- from where binder j's turn came, with the blocks A, to where its loop began, with B, and back
module _ {F : Frame} {A B : ℕ → ℕ} {j : ℕ} {act : ℕ} (W : Framed F) (Y : Ready F A (suc j) act) (u : Within F j act)
    (d : Bool) (v b : ℕ) (e : F.N j ≡ bind d v b)
    (way grown : ℕ) (some : 0 < way) (flag : eqb way 1 ≡ d) (P : Placed A B j (cond (eqb way grown) (A j) (begin d F.L.n))) where
  begun : Kept F A B (suc j)
  begun = placed-kept F P Y.small (low (eqb way grown))
    where
      low : (old : Bool) → cond old (A j) (begin d F.L.n) < 2 ^ F.L.n
      low true = Y.small j
      low false = begin_small d F.L.n

  pub restart : Ready F B (suc j) act
  restart = record { below = Y.below; small = begun.small; active = Y.active }

  -- the iterates rise from the old block, which is the set for sets below, and from no states (all states)
  rising : (c : ℕ → ℕ) → Small F.L.n c → Grown F grown c (λ e. RightAt F e A j) → Climbing d F.L.n (body_of F c v b) (B j)
  rising c small H = elim (ℕ_discrete way grown) [
    | yes q ↦
        let O = subst (λ d. Older F d c (λ e. RightAt F e A j)) (ap (λ k. eqb k 1) (sym q) ∙ flag) (H (omega arith)) in
        subst (Climbing d F.L.n (body_of F c v b))
        (sym (P.inside ∙ ap (λ t. cond t (A j) (begin d F.L.n)) (eq-eqb way grown q) ∙ O.held ∙ binder_value W Y u d v b e O.sets))
        (fix_climbing F.L d v (formula_at F.N b) c small O.sets O.small O.below)
    | no q ↦
        subst (Climbing d F.L.n (body_of F c v b)) (sym (P.inside ∙ ap (λ t. cond t (A j) (begin d F.L.n)) (ne_eqb way grown q)))
        (begin_climbing d (value_good F.L (formula_at F.N b) v c small))
  ]

  back : {E : ℕ → ℕ} → Kept F B E (suc j) → Ends W restart u d v b e E → Computed F A E j act grown
  back K h = record {
    kept = kept_trans begun K (omega arith);
    right = λ c small M R H. h c small (matches_kept c act (suc j) begun (omega arith) Y.active M)
        (λ i l w. P.outside i (λ q. omega arith) ∙ R i l w) (rising c small H);
  }

  -- the two ends of the loop
  pub computed_early : {C D E : ℕ → ℕ} {r moved : ℕ} → Turning F B C j act d v b r moved → Refreshed F C D j act (wide act v) moved → Placed D E j (D b)
      → D b ≡ D j → Computed F A E j act grown
  computed_early G R Q q = back (round_kept W restart u d v b e G R Q) (settled_early W restart u d v b e G R Q q)

  pub computed_late : {C : ℕ → ℕ} {r moved : ℕ} → Turning F B C j act d v b r moved → F.L.n ≤ r → Computed F A C j act grown
  computed_late G l = back G.kept (settled_late W restart u d v b e G l)
