-- Rounds of a binder: its block goes through the iterates of the body, from whatever table they rise from.
-- After a round only the binder's table has moved, and it rose: so the lower nodes are those of functions below.
use Prim.Native.Nat.{ℕ, suc, ◌+◌, ◌≤◌, ◌<◌}
use mathlib.Core.Bool.{Bool, true, false}
use mathlib.Core.List.{List}
use mathlib.Core.Logic.{inl, inr}
use mathlib.Core.Path.{◌≡◌, refl, sym, ap, ◌∙◌, subst}
use native.Mathlib.Decide.{ℕ_discrete}
use native.Mathlib.Nat.{not-suc-le-zero}
use native.Mathlib.Numerals.{add-one}
use native.Mathlib.Omega.{arith}
use Rattle.std.specs.Prelude.{Option, Some, None}
use Rattle.flc.specs.Formula.{Env, put}
use Rattle.flc.specs.Nodes.{formula_at}
use Rattle.flc.specs.Order.{Below, Agree, Good}
use Rattle.flc.specs.Iterates.{iterate}
use Rattle.flc.proofs.Order.{agree-below, below_trans, good_agree}
use Rattle.flc.proofs.FixedPoints.{Steady, steady_agree, iterate_good, iterate-rises}
use Rattle.flc.proofs.Meanings.{put_two, put_good, mean_steady}
use Rattle.case_plan.specs.declared.moves.Direction.{Direction}
use Rattle.case_plan.specs.Plans.{Plan, table_of, nodes_of}
use Rattle.case_plan.proofs.Directions.{direction_kind}
use Rattle.engine.specs.declared.refresh.Binder.{Binder}
use Rattle.engine.specs.Blocks.{block, Kept, env, Right}
use Rattle.engine.specs.Moves.{Older, Grown}
use Rattle.engine.specs.Dependence.{Stayed, Settled}
use Rattle.engine.specs.Computing.{NotAt, body, wider, Roundable, Rounded, Iterable, Iterated, after}
use Rattle.engine.proofs.Frames.{kept-none, kept_trans}
use Rattle.engine.proofs.Refreshing.{env_same, ready_after}
use Rattle.engine.proofs.Turns.{unseen, wider_keeps}

some_same : {a b : Direction} → Some a ≡ Some b → a ≡ b
some_same h = cc

-- after r rounds, from w₀ to w
pub record Turning (p : Plan) (w₀ w : List ℕ) (x : Binder) (act most r : ℕ) (moved : Option Direction) : Type 0 where
  pub few : r ≤ most
  pub kept : Kept p w₀ w (suc x.node)
  pub right : Right p (env p act w₀) act w x.node
  pub now : Agree p.states (block p w x.node) (after p w₀ x act r)
  pub changed : (i : ℕ) → i < r → Agree p.states (after p w₀ x act i) (after p w₀ x act (suc i)) → ⊥
  pub older : Grown p.states moved (put (env p act w₀) x.variable (block p w x.node)) (λ σ. Right p σ (wider act x) w x.node)
  pub settled : Settled p act w x.node
  pub stayed : Stayed p (NotAt p x.node) w₀ w x.node

module _ {p : Plan} {w₀ : List ℕ} {x : Binder} {act : ℕ} {way : Direction} (most : ℕ) (I : Iterable p w₀ x act way) where
  abbrev ρ : Env
  ρ = env p act w₀

  steady : Steady p.states (body p ρ x)
  steady = mean_steady (table_of p) (formula_at (nodes_of p) x.body) x.variable ρ I.binds.ready.good

  good : (r : ℕ) → Good p.states (after p w₀ x act r)
  good r = iterate_good I.rises steady I.rising r

  pub turning_start : Turning p w₀ w₀ x act most 0 None
  unfolding iterate
  turning_start = record {
    few = omega arith;
    kept = kept-none p w₀ (suc x.node);
    right = I.binds.right;
    now = λ q k. refl;
    changed = λ i l. absurd (not-suc-le-zero l);
    older = λ d l. absurd (let o : ◌≡◌ {A = ℕ} 0 1 = cc in omega arith);
    settled = I.binds.settled;
    stayed = λ i l only q k. refl;
  }

  module _ {w : List ℕ} {r : ℕ} {moved : Option Direction} (U : Turning p w₀ w x act most r moved) where
    same : env p act w ≡ ρ
    same = env_same I.binds.ready U.kept (omega arith)

    pub turning_roundable : Roundable p w x act moved
    turning_roundable = record {
      binds = record {
        least = I.binds.least;
        is = I.binds.is;
        ready = ready_after I.binds.ready U.kept (omega arith) (omega arith);
        within = I.binds.within;
        right = subst (λ ρ. Right p ρ act w x.node) (sym same) U.right;
        settled = U.settled;
      };
      good = good_agree (block p w x.node) U.now (good r);
      older = subst (λ ρ. Grown p.states moved (put ρ x.variable (block p w x.node)) (λ σ. Right p σ (wider act x) w x.node))
          (sym same) U.older;
    }

    module _ {z : List ℕ} {changed : Bool} (D : Rounded p w z x act changed) where
      -- the functions of this round
      abbrev σ : Env
      σ = put ρ x.variable (block p w x.node)

      lower : Right p σ (wider act x) z x.node
      lower = subst (λ ρ. Right p (put ρ x.variable (block p w x.node)) (wider act x) z x.node) same D.lower

      stayed : Stayed p (NotAt p x.node) w₀ z x.node
      stayed i l only q k = D.stayed i l only q k ∙ U.stayed i l only q k

      kept : Kept p w₀ z (suc x.node)
      kept = kept_trans U.kept D.kept (omega arith)

      right : Right p ρ act z x.node
      right i l h q k =
          lower i l (wider_keeps I.binds (p.scopes i) h) q k ∙ ap (λ g. g q) (sym (unseen I.binds ρ (block p w x.node) i l h))

      good_now : Good p.states (block p w x.node)
      good_now = good_agree (block p w x.node) U.now (good r)

      now : Agree p.states (block p z x.node) (after p w₀ x act (suc r))
      unfolding iterate
      now q k =
          subst (λ ρ. Agree p.states (block p z x.node) (body p ρ x (block p w x.node))) same D.next q k
          ∙ steady_agree steady (block p w x.node) (after p w₀ x act r) good_now (good r) U.now q k

      -- a round that changes nothing
      stood : changed ≡ false → Agree p.states (after p w₀ x act r) (after p w₀ x act (suc r))
      stood e q k = sym (U.now q k) ∙ D.stood e q k ∙ now q k

      pub iterated_still : changed ≡ false → Iterated p w₀ z x act most r
      iterated_still e = record {
        few = U.few;
        kept = kept;
        right = right;
        now = λ q k. sym (D.stood e q k) ∙ U.now q k;
        moved = U.changed;
        ends = inr (record { stands = stood e; settled = D.closed e });
        settled = D.settled;
        stayed = stayed;
      }

      -- and one that does
      moves : changed ≡ true → Agree p.states (after p w₀ x act r) (after p w₀ x act (suc r)) → ⊥
      moves n h = let e : changed ≡ false = D.stands (λ q k. U.now q k ∙ h q k ∙ sym (now q k)) in cc

      rose : Below I.rises p.states (block p w x.node) (block p z x.node)
      rose =
          let d = I.rises in
          let n = p.states in
          below_trans d n _ _ _ (agree-below d n _ _ U.now)
          (below_trans d n _ _ _ (iterate-rises d steady I.rising r) (agree-below d n _ _ (λ q k. sym (now q k))))

      pub turning_next : r < most → changed ≡ true → Turning p w₀ z x act most (r + 1) (Some way)
      turning_next l n = rw add-one (record {
        few = l;
        kept = kept;
        right = right;
        now = now;
        changed = λ i h. elim (ℕ_discrete i r) [
          | yes e ↦ subst (λ i. Agree p.states (after p w₀ x act i) (after p w₀ x act (suc i)) → ⊥) (sym e) (moves n)
          | no e ↦ U.changed i (omega arith)
        ];
        older = λ d h. subst (λ d. Older p.states d (put ρ x.variable (block p z x.node)) (λ σ. Right p σ (wider act x) z x.node))
            (direction_kind I.rises d (sym I.along ∙ some_same h)) (record {
              env = σ;
              good = put_good ρ x.variable I.binds.ready.good good_now;
              below = λ u. put_two (Below I.rises p.states) ρ ρ x.variable u _ _ rose (λ t q k s j m. m);
              held = lower;
            });
        settled = D.settled;
        stayed = stayed;
      })

    pub iterated_most : most ≤ r → Iterated p w₀ w x act most r
    iterated_most h = record {
      few = U.few;
      kept = U.kept;
      right = U.right;
      now = U.now;
      moved = U.changed;
      ends = inl (omega (arith, U.few));
      settled = U.settled;
      stayed = U.stayed;
    }
