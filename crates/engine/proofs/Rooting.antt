-- The whole rule: no variable is active at the root, so that its function is that of any environment; at the start nothing need be right.
use Prim.Native.Nat.{ℕ, suc, ◌<◌}
use mathlib.Core.List.{List}
use mathlib.Core.Path.{◌≡◌, refl, sym, ap, ◌∙◌, subst}
use native.Mathlib.Omega.{arith}
use lib.Dec.{T, eqb→eq}
use lib.ListN.{length}
use lib.Pow.{pow-lt}
use Rattle.flc.specs.Sets.{has}
use Rattle.flc.specs.Functions.{rounds}
use Rattle.flc.specs.Formula.{Table, mean, none, put}
use Rattle.flc.specs.Nodes.{Node, leaf, two, bind, lower, formula_at, rounds_of, rounds_at, Names}
use Rattle.flc.specs.Order.{GoodEnv}
use Rattle.flc.proofs.Masks.{has_empty, has-single}
use Rattle.flc.proofs.Meanings.{none_good}
use Rattle.flc.proofs.Unfolding.{lower-at}
use Rattle.case_plan.specs.Plans.{Plan, table_of, nodes_of, Within, every_mark}
use Rattle.case_plan.proofs.Scopes.{node_lower, scope_mark, scope_root}
use Rattle.engine.specs.Blocks.{RightAt}
use Rattle.std.specs.Prelude.{None}
use Rattle.engine.specs.Computing.{Ready, Refreshable, Refreshed, Computable, Computed, rounds_in, Runnable, Ran}
use Rattle.engine.proofs.Frames.{kept-none, env_idle}
use Rattle.engine.proofs.Depending.{reached_low, depends_met, depends_above}
use Rattle.engine.proofs.Owned.{own_right}
use Rattle.engine.proofs.Refreshing.{env_same, ready_after}

-- the rounds of a node in an environment that does not matter
rounds-at : (L : Table) (N : ℕ → Node) (j : ℕ) → ((i : ℕ) → Names (N j) i → i < j) → rounds_in L (N j) (formula_at N) none ≡ rounds_at L N j
unfolding rounds_at rounds_of
rounds-at L N j h = go (N j) h
  where
    go : (m : Node) → ((i : ℕ) → Names m i → i < j) → rounds_in L m (formula_at N) none ≡ rounds_of L m (lower N j)
    go (leaf p) h = refl
    go (two o a b) h = refl
    go (bind d v b) h = ap (λ φ. rounds d L.n (λ f. mean L φ (put none v f))) (sym (lower-at N j b (h b refl)))

module _ {p : Plan} (w : List ℕ) (A : Runnable p (length w)) where
  ready : Ready p w (suc p.root) every_mark
  ready = record {
    sound = A.sound;
    room = A.room;
    below = A.sound.rule.root;
    mask = pow-lt {i = 16} {j = 18} (omega arith);
    mark = rw (has-single 16 16) tt;
    homes = λ v l t. absurd (let z = eqb→eq 16 v (subst T (has-single 16 v) t) in omega arith);
    good = subst (GoodEnv p.states) (sym (env_idle p w)) (none_good p.states);
  }

  pub root_refreshable : Refreshable p w p.root 0 every_mark None
  root_refreshable = record {
    ready = ready_after ready (kept-none p w 0) (omega arith) (omega arith);
    small = omega arith;
    less = λ s k t. absurd (subst T (has_empty s) t);
    settled = λ m. absurd (subst T (has_empty 16) m);
    right = λ i l h. absurd (subst T (has_empty 16) (h 16 (omega arith) (scope_mark A.sound.rule i (omega (arith, A.sound.rule.root)))));
    older = λ d g. absurd (let o : ◌≡◌ {A = ℕ} 0 1 = cc in omega arith);
  }

  within : Within (p.scopes p.root) every_mark
  within s k t = subst (λ m. T (has m s)) (scope_root A.sound.rule) t

  module _ {u : List ℕ} (S : Refreshed p w u p.root 0 every_mark) where
    pub root_computable : Computable p u p.root every_mark None
    root_computable = record {
      ready = ready_after ready S.kept (omega arith) (omega arith);
      within = within;
      right = subst (λ ρ. (i : ℕ) → i < p.root → Within (p.scopes i) every_mark → RightAt p ρ u i) (sym (env_same ready S.kept (omega arith))) S.right;
      settled = S.settled;
      older = λ d g. absurd (let o : ◌≡◌ {A = ℕ} 0 1 = cc in omega arith);
    }

    pub ran : {v : List ℕ} {r : ℕ} → Computed p u v p.root every_mark None r → Ran p w v r
    ran {v} C = record {
      long = C.kept.long ∙ S.kept.long;
      right = own_right A.sound v (λ i r. C.settled ready.mark i (omega (arith, reached_low A.sound i r))
          (r, λ z D. absurd (omega (arith, depends_above A.sound i z D, reached_low A.sound (p.homes z) (depends_met A.sound i z r D)))));
      rounds = C.rounds refl ∙ ap (rounds_in (table_of p) (nodes_of p p.root) (formula_at (nodes_of p))) (env_idle p u)
          ∙ rounds-at (table_of p) (nodes_of p) p.root (node_lower A.sound.rule p.root A.sound.rule.root);
    }
