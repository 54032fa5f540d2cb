-- One round of a binder: the lower nodes are computed with its table for its variable, so that the body's block is what the body makes of it.
-- What does not depend on the variable stays right, for its function does not see the variable.
use Prim.Native.Nat.{ℕ, ◌+◌, ◌*◌, ◌^◌, ◌≤◌, ◌<◌}
use mathlib.Core.Bool.{Bool, false}
use mathlib.Core.List.{List}
use mathlib.Core.Path.{◌≡◌, sym, ap, ◌∙◌, subst}
use native.Mathlib.Decide.{ℕ_discrete}
use native.Mathlib.Omega.{arith}
use borrow.Author.Tests.{ne_eqb}
use lib.Bits.{or_lt}
use lib.Dec.{T}
use lib.ListN.{length}
use lib.Pow.{pow-lt}
use Rattle.flc.specs.Sets.{has}
use Rattle.flc.specs.Functions.{Fun}
use Rattle.flc.specs.Formula.{Env, put}
use Rattle.flc.specs.Nodes.{formula_at}
use Rattle.flc.specs.Order.{Agree, GoodEnv}
use Rattle.flc.proofs.Tests.{either_left, either_right, either_use}
use Rattle.flc.proofs.Meanings.{put_good, mean-free}
use Rattle.case_model.specs.Limits.{variables}
use Rattle.case_model.specs.Areas.{from}
use Rattle.std.specs.Prelude.{Option}
use Rattle.case_plan.specs.declared.moves.Direction.{Direction}
use Rattle.case_plan.specs.Plans.{Plan, table_of, nodes_of, meaning, Within, Sound}
use Rattle.case_plan.proofs.Scopes.{scope_frees, scope_body}
use Rattle.areas.specs.Runs.{Advanced}
use Rattle.engine.specs.declared.refresh.Binder.{Binder}
use Rattle.engine.specs.Blocks.{block, env, Right}
use Rattle.engine.specs.Moves.{Grown}
use Rattle.engine.specs.Computing.{Ready, Refreshable, Refreshed, NotAt, body, wider, Binds, Roundable, Rounded}
use Rattle.engine.proofs.Frames.{apart, in_table, in_sets, kept_block, kept_trans, filled_kept, filled_lower, wider_use, wider_mk, env-wider}
use Rattle.engine.proofs.Staying.{stays_right, filled_stayed, settled_filled}
use Rattle.engine.proofs.Refreshing.{ready_above}
use Rattle.engine.proofs.Plain.{binder_fits}

put_other : (ρ : Env) (v u : ℕ) (f : Fun) → (u ≡ v → ⊥) → put ρ v f u ≡ ρ u
unfolding put
put_other ρ v u f h = rw (ne_eqb u v h)

-- ---- what is known of a binder
module _ {p : Plan} {w : List ℕ} {x : Binder} {act : ℕ} (B : Binds p w x act) where
  S : Sound p
  S = B.ready.sound

  there : x.node < p.count
  there = B.ready.below

  pub binds_low : (x.variable < variables) × (x.body < x.node)
  binds_low = binder_fits S x.node there B.is

  pub binder_home : p.homes x.variable ≡ x.node
  binder_home = S.rule.homes x.node there B.is

  -- its block, and the body's below it
  pub binder_here : x.node * p.size + p.size ≤ length w
  binder_here = omega (arith, apart p.size x.node p.count there, B.ready.room)

  pub body_under : x.body * p.size + p.size ≤ x.node * p.size
  body_under = apart p.size x.body x.node binds_low.1

  -- its variable is not active
  inactive : (u : ℕ) → u < variables → T (has act u) → u ≡ x.variable → ⊥
  inactive u l t q = let (a, z) = B.ready.homes u l t in omega (arith, binder_home, ap p.homes q)

  -- a node that depends only on what is active does not see it
  pub unseen : (ρ : Env) (f : Fun) (i : ℕ) → i < x.node → Within (p.scopes i) act → meaning p i ρ ≡ meaning p i (put ρ x.variable f)
  unseen ρ f i l h = mean-free (table_of p) (formula_at (nodes_of p) i) ρ (put ρ x.variable f) (λ u t.
      let (k, s) = scope_frees S.rule i u (omega (arith, there)) t in
      sym (put_other ρ x.variable u f (inactive u k (h u (omega arith) s))))

  -- what it depends on is active in its rounds, and so is what its body depends on
  pub wider_keeps_one : (s : ℕ) → T (has act s) → T (has (wider act x) s)
  wider_keeps_one s t = wider_mk act x.variable s (either_left _ _ t)

  pub wider_keeps : (u : ℕ) → Within u act → Within u (wider act x)
  wider_keeps u h s k t = wider_keeps_one s (h s k t)

  pub body_within : Within (p.scopes x.body) (wider act x)
  body_within s k t =
      wider_mk act x.variable s
      (either_use _ _ (λ a. either_left _ _ (B.within s k a)) (either_right _ _) (scope_body S.rule x.node there B.is s k t))

  -- the variable has the binder's table
  pub wider-env : env p (wider act x) w ≡ put (env p act w) x.variable (block p w x.node)
  wider-env = env-wider p act x.variable w binds_low.0 ∙ ap (λ j. put (env p act w) x.variable (block p w j)) binder_home

-- ---- the round
module _ {p : Plan} {w : List ℕ} {x : Binder} {act : ℕ} {moved : Option Direction} (R : Roundable p w x act moved) where
  B : Binds p w x act
  B = R.binds

  -- the functions in this round
  abbrev ρ : Env
  ρ = put (env p act w) x.variable (block p w x.node)

  ready : Ready p w x.node (wider act x)
  ready = record {
    sound = B.ready.sound;
    room = B.ready.room;
    below = omega (arith, B.ready.below);
    mark = wider_keeps_one B 16 B.ready.mark;
    mask = or_lt 18 act (2 ^ x.variable) B.ready.mask (pow-lt {i = x.variable} {j = 18} (omega (arith, binds_low B)));
    homes = λ u l. wider_use act x.variable u
        (λ t. let (a, z) = B.ready.homes u l t in (omega arith, z))
        (λ q. rw (q, binder_home B) (omega arith, B.ready.below));
    good = subst (GoodEnv p.states) (sym (wider-env B)) (put_good (env p act w) x.variable B.ready.good R.good);
  }

  pub round_refreshable : Refreshable p w x.node act (wider act x) moved
  round_refreshable = record {
    ready = ready;
    small = B.ready.mask;
    less = wider_keeps B act (λ s k t. t);
    settled = B.settled;
    right = subst (λ ρ. Right p ρ act w x.node) (sym (wider-env B))
        (λ i l h q k. B.right i l h q k ∙ ap (λ g. g q) (unseen B (env p act w) (block p w x.node) i l h));
    older = subst (λ ρ. Grown p.states moved ρ (λ σ. Right p σ (wider act x) w x.node)) (sym (wider-env B)) R.older;
  }

  module _ {y z : List ℕ} {changed : Bool} (T₁ : Refreshed p w y x.node act (wider act x))
      (D : Advanced y z (x.body * p.size) (x.node * p.size) p.size changed) where
    size : (q : ℕ) → q < 2 ^ p.states → q < p.size
    size = in_table B.ready.sound

    lower : Right p ρ (wider act x) y x.node
    lower = subst (λ ρ. Right p ρ (wider act x) y x.node) (wider-env B) T₁.right

    -- the binder's block is still the last table, the body's is the next
    last : (q : ℕ) → from y (x.node * p.size) q ≡ block p w x.node q
    last q = kept_block T₁.kept x.node q (omega arith)

    next : Agree p.states (from y (x.body * p.size)) (body p (env p act w) x (block p w x.node))
    next = lower x.body (binds_low B).1 (body_within B)

    above : (u : ℕ) → u < variables → T (has act u) → NotAt p x.node u
    above = ready_above B.ready (omega arith)

    -- if nothing changed, the binders' blocks are as the lower nodes found them
    unchanged : changed ≡ false → (u : ℕ) → x.node ≤ p.homes u → (q : ℕ) → q < p.size → block p z (p.homes u) q ≡ block p y (p.homes u) q
    unchanged e u l q k = elim (ℕ_discrete (p.homes u) x.node) [
      | yes h ↦ subst (λ j. block p z j q ≡ block p y j q) (sym h) (D.filled.inside q k ∙ D.stood e q k)
      | no h ↦ kept_block (filled_kept p D.filled) (p.homes u) q (omega arith)
    ]

    pub rounded : Rounded p w z x act changed
    rounded = record {
      kept = kept_trans T₁.kept (filled_kept p D.filled) (omega arith);
      next = λ q k. D.filled.inside q (size q k) ∙ next q k;
      lower = λ i l h q k. filled_lower p D.filled i q l (size q k) ∙ lower i l h q k;
      stood = λ e q k. sym (last q) ∙ sym (D.stood e q (size q k)) ∙ sym (D.filled.inside q (size q k));
      stands = λ h. D.stands (λ q k.
          sym (D.filled.inside q k) ∙ sym (h q (in_sets B.ready.sound q k)) ∙ sym (last q));
      settled = settled_filled B.ready.sound act above D.filled
          (λ m i l (r, only). T₁.settled ready.mark i l (r, λ u E. wider_keeps_one B u (only u E)));
      closed = λ e m i l only.
          let stayed = filled_stayed B.ready.sound D.filled in
          stays_right B.ready.sound (λ u. T (has (wider act x) u)) y z x.node stayed (λ u h t. unchanged e u h) i l only (T₁.settled m i l only);
      stayed = λ i l (r, only) q k. filled_lower p D.filled i q l k
          ∙ T₁.stayed B.ready.mark i l
          (r, λ u E. wider_use act x.variable u (λ t. t) (λ h. absurd (only u E (ap p.homes h ∙ binder_home B)))) q k;
    }
