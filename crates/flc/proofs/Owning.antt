-- Each variable as its own fixed point: at a binder whose free variables have their binders above it, the environment has the binder's function.
-- By induction over the nodes taken: what is put for a variable stays, for it has one binder.
use Prim.Native.Nat.{ℕ, zero, suc, ◌<◌}
use mathlib.Core.Bool.{true, false, cond}
use mathlib.Core.Path.{◌≡◌, refl, sym, ap, ◌∙◌, subst}
use native.Mathlib.Decide.{ℕ_discrete}
use native.Mathlib.Omega.{arith}
use lib.Dec.{T}
use Rattle.flc.specs.Formula.{Table, Env, mean, none, free}
use Rattle.flc.specs.Nodes.{Node, formula_at}
use Rattle.flc.specs.Order.{Good, GoodEnv}
use Rattle.flc.specs.Own.{binds, with_binder, own_below, own}
use Rattle.flc.proofs.Tests.{bool_ext}
use Rattle.flc.proofs.Meanings.{none_good, mean_nice, mean-free}

module _ (L : Table) (N : ℕ → Node) where
  abbrev after : ℕ → Env → Env
  after = with_binder L N

  after_bound : (j : ℕ) (ρ : Env) (v : ℕ) → T (binds (N j) v) → after j ρ v ≡ mean L (formula_at N j) ρ
  after_bound j ρ v t = ap (λ b. cond b (mean L (formula_at N j) ρ) (ρ v)) (bool_ext (binds (N j) v) true (λ u. tt) (λ u. t))

  after_other : (j : ℕ) (ρ : Env) (v : ℕ) → (T (binds (N j) v) → ⊥) → after j ρ v ≡ ρ v
  after_other j ρ v n = ap (λ b. cond b (mean L (formula_at N j) ρ) (ρ v)) (bool_ext (binds (N j) v) false n (λ u. absurd u))

  -- monotone functions, all of them
  after_good : (j : ℕ) (ρ : Env) → GoodEnv L.n ρ → GoodEnv L.n (after j ρ)
  after_good j ρ R v =
      elim (binds (N j) v) as (λ b. Good L.n (cond b (mean L (formula_at N j) ρ) (ρ v)))
      [ true ↦ (mean_nice L (formula_at N j)).good ρ R | false ↦ R v ]

  below_good : (k : ℕ) (ρ : Env) → GoodEnv L.n ρ → GoodEnv L.n (own_below L N k ρ)
  unfolding own_below
  below_good zero ρ R = R
  below_good (suc k) ρ R = below_good k (after k ρ) (after_good k ρ R)

  pub own_good : (m : ℕ) → GoodEnv L.n (own L N m)
  unfolding own
  own_good m = below_good m none (none_good L.n)

  -- no node below k binds v
  abbrev Unbound : ℕ → ℕ → Type 0
  Unbound k v = (i : ℕ) → i < k → T (binds (N i) v) → ⊥

  -- it then keeps its function
  below_stays : (k : ℕ) (ρ : Env) (v : ℕ) → Unbound k v → own_below L N k ρ v ≡ ρ v
  unfolding own_below
  below_stays zero ρ v h = refl
  below_stays (suc k) ρ v h = below_stays k (after k ρ) v (λ i l. h i (omega arith)) ∙ after_other k ρ v (h k (omega arith))

  -- the binder j of v among the k nodes taken
  module _ (j v : ℕ) (t : T (binds (N j) v)) (up : (w : ℕ) → T (free w (formula_at N j)) → Unbound (suc j) w) where
    below_binder : (k : ℕ) (ρ : Env) → j < k → ((i : ℕ) → i < k → T (binds (N i) v) → i ≡ j)
        → own_below L N k ρ v ≡ mean L (formula_at N j) (own_below L N k ρ)
    unfolding own_below
    below_binder zero ρ l one = absurd (omega arith)
    below_binder (suc k) ρ l one = elim (ℕ_discrete j k) [
      | yes e ↦
          let alone : Unbound k v = λ i h u. let q : i ≡ j = one i (omega arith) u in omega arith in
          let stays : mean L (formula_at N j) ρ ≡ mean L (formula_at N j) (own_below L N k (after k ρ)) =
          mean-free L (formula_at N j) ρ _ (λ w f. sym (below_stays (suc k) ρ w (subst (λ k. Unbound (suc k) w) e (up w f)))) in
          below_stays k (after k ρ) v alone ∙ after_bound k ρ v (subst (λ k. T (binds (N k) v)) e t)
          ∙ ap (λ k. mean L (formula_at N k) ρ) (sym e) ∙ stays
      | no n ↦ below_binder k (after k ρ) (omega arith) (λ i h. one i (omega arith))
    ]

    -- of all nodes
    pub own_binder : (m : ℕ) → j < m → ((i : ℕ) → i < m → T (binds (N i) v) → i ≡ j) → own L N m v ≡ mean L (formula_at N j) (own L N m)
    unfolding own
    own_binder m = below_binder m none
