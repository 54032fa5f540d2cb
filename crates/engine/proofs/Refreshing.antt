-- Refreshing the nodes below k: those below the last one, then that one, or not; and the last one if it is no binder.
-- A node outside what is active need not be right; one that depends only on the old is right already, for its block was left alone.
use Prim.Native.Nat.{ℕ, zero, suc, ◌-◌, ◌^◌, ◌≤◌, ◌<◌}
use mathlib.Core.Bool.{Bool}
use mathlib.Core.List.{List}
use mathlib.Core.Path.{◌≡◌, refl, sym, ap, ◌∙◌, subst}
use native.Mathlib.Decide.{dec_lt, ℕ_discrete}
use native.Mathlib.Omega.{arith}
use lib.Bits.{bit_or}
use lib.Dec.{T}
use Rattle.std.specs.Prelude.{Option}
use Rattle.case_plan.specs.declared.moves.Direction.{Direction}
use Rattle.flc.specs.Sets.{has}
use Rattle.flc.specs.Formula.{Env, free}
use Rattle.flc.specs.Nodes.{Node, leaf, two, bind, formula_at}
use Rattle.flc.specs.Order.{GoodEnv}
use Rattle.case_model.specs.Limits.{variables}
use Rattle.case_model.specs.Reach.{Reached}
use Rattle.case_plan.specs.Plans.{Plan, table_of, nodes_of, Within, Sound}
use Rattle.case_plan.proofs.Scopes.{scope_small, scope_mark, scope_frees, scope_names}
use Rattle.engine.specs.Blocks.{Kept, env, Right, RightAt, Fillable, NodeFilled}
use Rattle.engine.specs.Dependence.{Depends, Only, as_bound, Settled}
use Rattle.engine.specs.Moves.{Older}
use Rattle.engine.specs.Computing.{Ready, Refreshable, Refreshed, NotAt, Computable, Computed, rounds_in}
use Rattle.engine.proofs.Frames.{in_table, kept-none, kept_block, kept-up, kept_trans, filled_kept, filled_lower, or_within, within_or, env-kept}
use Rattle.engine.proofs.Plain.{free_var, operator_low, value_right, second_sets}
use Rattle.engine.proofs.Depending.{depends_met, depends_binder, own_depends, depends_through, depends_within, within_mk}
use Rattle.engine.proofs.Staying.{right_as_bound, stays_right, filled_stayed, settled_filled, only_new, settled_lower, settled_more}

pub not_zero : (k : ℕ) → (k ≡ 0 → ⊥) → k ≡ suc (k - 1)
not_zero zero h = absurd (h refl)
not_zero (suc k) h = omega arith

-- ---- what stays
-- the functions of the active variables
pub env_same : {p : Plan} {w v : List ℕ} {k i act : ℕ} → Ready p w k act → Kept p w v i → i ≤ k → env p act v ≡ env p act w
env_same {act = act} R K l = env-kept act K (λ u h t. let (a, b) = R.homes u h t in omega arith)

pub ready_after : {p : Plan} {w v : List ℕ} {k i j act : ℕ} → Ready p w k act → Kept p w v i → i ≤ k → j ≤ k → Ready p v j act
ready_after {p} R K l g = record {
  sound = R.sound;
  room = rw K.long R.room;
  below = omega (arith, R.below);
  mask = R.mask;
  mark = R.mark;
  homes = λ u h t. let (a, b) = R.homes u h t in (omega arith, b);
  good = subst (GoodEnv p.states) (sym (env_same R K l)) R.good;
}

-- what was right then, of less
pub older_map : {n : ℕ} {d : Bool} {ρ : Env} {P Q : Env → Type 0} → ((σ : Env) → P σ → Q σ) → Older n d ρ P → Older n d ρ Q
older_map h O = record { env = O.env; good = O.good; below = O.below; held = h O.env O.held }

-- ---- the nodes below k
pub refresh_none : {p : Plan} {w : List ℕ} {k : ℕ} (old act : ℕ) → k ≡ 0 → Refreshed p w w k old act
refresh_none {p} {w} {k} old act e = record {
  kept = kept-none p w k;
  right = λ i l. absurd (omega arith);
  settled = λ m i l. absurd (omega arith);
  stayed = λ m i l. absurd (omega arith);
}

-- the active variables are bound above
pub ready_above : {p : Plan} {w : List ℕ} {k j act : ℕ} → Ready p w k act → j < k → (u : ℕ) → u < variables → T (has act u) → NotAt p j u
ready_above R l u h t e = let (a, b) = R.homes u h t in omega arith

module _ {p : Plan} {w : List ℕ} {k old act : ℕ} {grown : Option Direction} (j : ℕ) (R : Refreshable p w k old act grown) (e : k ≡ suc j) where
  pub last_there : j < p.count
  last_there = omega (arith, R.ready.below)

  S : Sound p
  S = R.ready.sound

  abbrev Met : ℕ → Type 0
  Met = Reached (nodes_of p) p.root

  above : (u : ℕ) → u < variables → T (has act u) → NotAt p j u
  above = ready_above R.ready (omega arith)

  settled_old : Settled p old w (suc j)
  settled_old = subst (λ k. Settled p old w k) e R.settled

  pub refresh_lower : Refreshable p w j old act grown
  refresh_lower = record {
    ready = ready_after R.ready (kept-none p w k) (omega arith) (omega arith);
    small = R.small;
    less = R.less;
    right = λ i l. R.right i (omega arith);
    settled = settled_lower S old w j (λ u h t. above u h (R.less u (omega arith) t)) settled_old;
    older = λ d g. older_map (λ σ Q i l. Q i (omega arith)) (R.older d g);
  }

  -- a node below j that depends on a variable bound at j
  module _ {i u : ℕ} {Q : ℕ → Type 0} (only : Only p Q (suc j) i) (q : p.homes u ≡ j) (D : Depends p j i u) where
    met_last : Met j
    met_last = subst Met q (depends_met S i u only.0 D)

    -- depends on all that is free there
    free_last : (v : ℕ) → T (free v (formula_at (nodes_of p) j)) → Q v
    free_last v t = only.1 v (depends_through S j i u v D q (own_depends S j v met_last t))

  module _ {y : List ℕ} (T₁ : Refreshed p w y j old act) where
    same : env p act y ≡ env p act w
    same = env_same R.ready T₁.kept (omega arith)

    good : GoodEnv p.states (env p act y)
    good = subst (GoodEnv p.states) (sym same) R.ready.good

    -- the last node is left as it is: what is then to be shown
    left : (Within (p.scopes j) act → RightAt p (env p act w) y j)
        → ((i : ℕ) → i < j → Only p (λ u. T (has act u)) (suc j) i → (u : ℕ) → p.homes u ≡ j → Depends p j i u → RightAt p (as_bound p y) y i)
        → Refreshed p w y k old act
    left h below = subst (λ k. Refreshed p w y k old act) (sym e) (record {
      kept = kept-up T₁.kept (omega arith);
      right = λ i l a. elim (ℕ_discrete i j) [
        | yes q ↦ subst (λ i. Within (p.scopes i) act → RightAt p (env p act w) y i) (sym q) h a
        | no q ↦ T₁.right i (omega arith) a
      ];
      settled = settled_more S act y j T₁.settled
          (λ a. right_as_bound S act y good j last_there a (subst (λ ρ. RightAt p ρ y j) (sym same) (h a))) below;
      stayed = λ m i l only x g. elim (dec_lt i j) [
        | yes q ↦ T₁.stayed m i q (only_new S old act above i only) x g
        | no q ↦ kept_block T₁.kept i x (omega arith)
      ];
    })

    -- it depends on more than what is active
    pub skip_out : (bit_or (p.scopes j) act ≡ act → ⊥) → Refreshed p w y k old act
    skip_out n =
        let out : Within (p.scopes j) act → ⊥ = λ a. n (within_or (p.scopes j) act (scope_small S.rule j last_there) R.ready.mask a) in
        left (λ a. absurd (out a))
        (λ i l only u q D. absurd (out (within_mk S j act (met_last only q D) R.ready.mark (free_last only q D))))

    -- it depends only on the old, and so does what depends on a variable bound there
    pub skip_old : bit_or (p.scopes j) old ≡ old → Refreshed p w y k old act
    skip_old q =
        let inside = or_within (p.scopes j) old q in
        let mark = inside 16 (omega arith) (scope_mark S.rule j last_there) in
        left (λ a x i. kept_block T₁.kept j x (omega arith) ∙ R.right j (omega arith) inside x i)
        (λ i l only u h D.
        let old_free : (v : ℕ) → Depends p (suc j) i v → T (has old v) = λ v E.
        let (low, t) = scope_frees S.rule j v last_there (depends_within S j i u v only.0 D h E) in inside v (omega arith) t in
        stays_right S (λ v. T (has act v) → T (has old v)) w y j (T₁.stayed mark) (λ v m z x g. kept_block T₁.kept (p.homes v) x m) i l
        (only_new S old act above i (only.0, λ v E a. old_free v E))
        (settled_old mark i (omega arith) (only.0, old_free)))

    -- it is computed
    pub computable : bit_or (p.scopes j) act ≡ act → Computable p y j act grown
    computable q =
        let within = or_within (p.scopes j) act q in
        record {
          ready = ready_after R.ready T₁.kept (omega arith) (omega arith);
          within = within;
          right = subst (λ ρ. Right p ρ act y j) (sym same) T₁.right;
          settled = T₁.settled;
          older = λ d g. subst (λ ρ. Older p.states d ρ (λ σ. RightAt p σ y j)) (sym same)
              (older_map (λ σ Q x i. kept_block T₁.kept j x (omega arith) ∙ Q j (omega arith) within x i) (R.older d g));
        }

    pub one_more : {v : List ℕ} {r : ℕ} → bit_or (p.scopes j) act ≡ act → (bit_or (p.scopes j) old ≡ old → ⊥)
        → Computed p y v j act grown r → Refreshed p w v k old act
    one_more {v} q n C =
        let within = or_within (p.scopes j) act q in
        let new : (Met j) → T (has old 16) → ((u : ℕ) → T (free u (formula_at (nodes_of p) j)) → T (has act u) → T (has old u)) → ⊥ =
        λ r m f. n (within_or (p.scopes j) old (scope_small S.rule j last_there) R.small (within_mk S j old r m (λ u t.
        let (low, s) = scope_frees S.rule j u last_there t in f u t (within u (omega arith) s)))) in
        subst (λ k. Refreshed p w v k old act) (sym e) (record {
          kept = kept_trans T₁.kept C.kept (omega arith);
          right = subst (λ ρ. Right p ρ act v (suc j)) same C.right;
          settled = C.settled;
          stayed = λ m i l only x g. elim (ℕ_discrete i j) [
            | yes z ↦ absurd (new (subst Met z only.0) m (λ u t. only.1 u (subst (λ i. Depends p (suc j) i u) (sym z)
                (own_depends S j u (subst Met z only.0) t))))
            | no z ↦
                let h : i < j = omega arith in
                C.stayed i h (only.0, λ u D s. new (met_last only s D) m (free_last only s D)) x g
                ∙ T₁.stayed m i h (only_new S old act above i only) x g
          ];
        })

-- ---- node j, if it is no binder
no_rounds : (p : Plan) (j : ℕ) (ρ : Env) → ((d : Bool) (v b : ℕ) → nodes_of p j ≡ bind d v b → ⊥)
    → 0 ≡ rounds_in (table_of p) (nodes_of p j) (formula_at (nodes_of p)) ρ
no_rounds p j ρ h = go (nodes_of p j) h
  where
    go : (m : Node) → ((d : Bool) (v b : ℕ) → m ≡ bind d v b → ⊥) → 0 ≡ rounds_in (table_of p) m (formula_at (nodes_of p)) ρ
    go (leaf q) h = refl
    go (two o a b) h = refl
    go (bind d v b) h = absurd (h d v b refl)

module _ {p : Plan} {w : List ℕ} {j act : ℕ} {grown : Option Direction} (C : Computable p w j act grown)
    (plain : (d : Bool) (v b : ℕ) → nodes_of p j ≡ bind d v b → ⊥) where
  sound : Sound p
  sound = C.ready.sound

  there : j < p.count
  there = C.ready.below

  pub fillable : Fillable p w j
  fillable = record {
    sound = sound;
    room = C.ready.room;
    there = there;
    plain = plain;
    bound = λ v e.
        let (h, t) = scope_frees sound.rule j v there (free_var sound j v there e) in
        let (a, b) = C.ready.homes v h (C.within v (omega arith) t) in
        (omega arith, b);
    sets = λ o a b e. second_sets sound act w C.ready.good j there C.within C.right b (operator_low sound j there e)
        (scope_names sound.rule j there e).1;
  }

  module _ {v : List ℕ} (F : NodeFilled p w v j) where
    size : (x : ℕ) → x < 2 ^ p.states → x < p.size
    size = in_table sound

    here : RightAt p (env p act w) v j
    here x k = F.inside x (size x k) ∙ value_right sound act w C.ready.good j there C.within C.right plain x k

    env_stays : env p act v ≡ env p act w
    env_stays = env_same C.ready (filled_kept p F) (omega arith)

    good_after : GoodEnv p.states (env p act v)
    good_after = subst (GoodEnv p.states) (sym env_stays) C.ready.good

    pub computed_plain : Computed p w v j act grown 0
    computed_plain = record {
      kept = filled_kept p F;
      right = λ i l h x k. elim (ℕ_discrete i j) [
        | yes q ↦ subst (λ i. RightAt p (env p act w) v i) (sym q) here x k
        | no q ↦ filled_lower p F i x (omega arith) (size x k) ∙ C.right i (omega arith) h x k
      ];
      rounds = λ z. no_rounds p j (env p act w) plain;
      settled = settled_more sound act v j (settled_filled sound act (ready_above C.ready (omega arith)) F C.settled)
          (λ a. right_as_bound sound act v good_after j there a (subst (λ ρ. RightAt p ρ v j) (sym env_stays) here))
          (λ i l only u q D. let (d, b, e) = depends_binder sound i u only.0 D in absurd (plain d u b (ap (nodes_of p) (sym q) ∙ e)));
      stayed = filled_stayed sound F;
    }
