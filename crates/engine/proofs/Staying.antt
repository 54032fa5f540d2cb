-- Nodes that are right with every variable read as its binder's block has it, and when they stay so.
-- Such a node looks at its own block and at those of the binders of its free variables; a block that a call changes depends on a variable of that call.
use Prim.Native.Nat.{ℕ, suc, ◌*◌, ◌^◌, ◌≤◌, ◌<◌}
use mathlib.Core.Bool.{true, false, cond}
use mathlib.Core.List.{List}
use mathlib.Core.Logic.{⊎_elim}
use mathlib.Core.Path.{◌≡◌, refl, sym, ap, ◌∙◌, subst, fun_ext}
use native.Mathlib.Decide.{dec_lt, ℕ_discrete}
use native.Mathlib.Omega.{arith}
use borrow.Author.Tests.{lt-ltb}
use lib.Dec.{T, ltb, ltb→lt}
use Rattle.flc.specs.Sets.{has}
use Rattle.flc.specs.Functions.{Fun}
use Rattle.flc.specs.Formula.{free}
use Rattle.flc.specs.Nodes.{formula_at}
use Rattle.flc.specs.Order.{GoodEnv}
use Rattle.flc.proofs.Meanings.{mean-free, mean-env}
use Rattle.case_model.specs.Limits.{variables}
use Rattle.case_model.specs.Areas.{Filled}
use Rattle.case_model.specs.Reach.{Reached}
use Rattle.case_plan.specs.Plans.{Plan, table_of, nodes_of, meaning, Within, Sound}
use Rattle.case_plan.proofs.Scopes.{scope_frees}
use Rattle.engine.specs.Blocks.{block, Kept, env, RightAt}
use Rattle.engine.specs.Dependence.{Depends, outer, inner, Only, Stayed, as_bound, Settled}
use Rattle.engine.specs.Computing.{NotAt}
use Rattle.engine.proofs.Frames.{in_table, kept_block, filled_kept, filled_lower}
use Rattle.engine.proofs.Plain.{env_active}
use Rattle.engine.proofs.Depending.{bound, depends_small, depends_above, depends_up, depends_down, within_mk, own_depends}

-- ---- the functions of variables
as_bound_same : (p : Plan) (w v : List ℕ) (u : ℕ) → ((x : ℕ) → x < p.size → block p v (p.homes u) x ≡ block p w (p.homes u) x)
    → as_bound p v u ≡ as_bound p w u
unfolding as_bound
as_bound_same p w v u h = fun_ext λ x.
    elim (ltb x p.size) as (λ b. (T b → block p v (p.homes u) x ≡ block p w (p.homes u) x)
    → cond b (block p v (p.homes u) x) 0 ≡ cond b (block p w (p.homes u) x) 0)
    [ true ↦ λ f. f tt | false ↦ λ f. refl ] (λ t. h x (ltb→lt x p.size t))

-- at a set
pub as_bound-at : {p : Plan} → Sound p → (w : List ℕ) (u x : ℕ) → x < 2 ^ p.states → as_bound p w u x ≡ block p w (p.homes u) x
unfolding as_bound
as_bound-at {p} S w u x k = ap (λ b. cond b (block p w (p.homes u) x) 0) (lt-ltb x p.size (in_table S x k))

-- a node that depends only on what is active is right so if it is right with the active variables' functions
pub right_as_bound : {p : Plan} → Sound p → (act : ℕ) (w : List ℕ) → GoodEnv p.states (env p act w)
    → (j : ℕ) → j < p.count → Within (p.scopes j) act → RightAt p (env p act w) w j → RightAt p (as_bound p w) w j
right_as_bound {p} S act w G j h within R x k =
    R x k ∙ sym (mean-env (table_of p) (formula_at (nodes_of p) j) (as_bound p w) (env p act w) (λ u t. G u) same x k)
  where
    same : (u : ℕ) → T (free u (formula_at (nodes_of p) j)) → (x : ℕ) → x < 2 ^ p.states → as_bound p w u x ≡ env p act w u x
    same u t x k =
        let (l, s) = scope_frees S.rule j u h t in
        as_bound-at S w u x k ∙ ap (λ f. f x) (sym (env_active p act w u l (within u (omega arith) s)))

-- ---- what stays
module _ {p : Plan} (S : Sound p) where
  abbrev Met : ℕ → Type 0
  Met = Reached (nodes_of p) p.root

  -- a right node, if its block and those that it looks at stay
  pub stays_right : (Q : ℕ → Type 0) (w v : List ℕ) (k : ℕ) → Stayed p Q w v k
      → ((u : ℕ) → k ≤ p.homes u → Q u → (x : ℕ) → x < p.size → block p v (p.homes u) x ≡ block p w (p.homes u) x)
      → (i : ℕ) → i < k → Only p Q k i → RightAt p (as_bound p w) w i → RightAt p (as_bound p v) v i
  stays_right Q w v k T₁ above i l (r, only) R x q =
      T₁ i l (r, only) x (in_table S x q) ∙ R x q
      ∙ ap (λ f. f x) (mean-free (table_of p) (formula_at (nodes_of p) i) (as_bound p w) (as_bound p v) (λ u t. sym (as_bound_same p w v u (at u t))))
    where
      at : (u : ℕ) → T (free u (formula_at (nodes_of p) i)) → (x : ℕ) → x < p.size → block p v (p.homes u) x ≡ block p w (p.homes u) x
      at u t x h = elim (dec_lt (p.homes u) k) [
        | yes m ↦ T₁ (p.homes u) m ((bound S i u r t).met, λ z D. only z (inner t m D)) x h
        | no m ↦ above u (omega arith) (only u (outer t (omega arith))) x h
      ]

  -- one block filled: those below it stay, and so does what does not look at it
  pub filled_stayed : {Q : ℕ → Type 0} {w v : List ℕ} {j : ℕ} {f : Fun} → Filled w v (j * p.size) p.size f → Stayed p Q w v j
  filled_stayed F i l only x h = filled_lower p F i x l h

  kept_not_at : {w v : List ℕ} {j : ℕ} → Kept p w v (suc j)
      → (u : ℕ) → j ≤ p.homes u → NotAt p j u → (x : ℕ) → x < p.size → block p v (p.homes u) x ≡ block p w (p.homes u) x
  kept_not_at {j = j} K u l n x h = kept_block K (p.homes u) x (above (ℕ_discrete (p.homes u) j))
    where
      above : Dec (p.homes u ≡ j) → suc j ≤ p.homes u
      above (yes e) = absurd (n e)
      above (no e) = omega arith

  -- no active variable is bound at node j
  abbrev pub Above : ℕ → ℕ → Type 0
  Above act j = (u : ℕ) → u < variables → T (has act u) → NotAt p j u

  pub settled_filled : (act : ℕ) {w v : List ℕ} {j : ℕ} {f : Fun} → Above act j → Filled w v (j * p.size) p.size f
      → Settled p act w j → Settled p act v j
  settled_filled act {w} {v} {j} A F T₁ m i l (r, only) =
      stays_right (NotAt p j) w v j (filled_stayed F) (kept_not_at (filled_kept p F)) i l
      (r, λ u D. A u (depends_small S i u r D) (only u D)) (T₁ m i l (r, only))

  -- ---- one node more
  -- seen from below node j itself, if no variable bound there matters
  pub only_lower : {Q : ℕ → Type 0} {j : ℕ} (i : ℕ) → Only p Q (suc j) i → ((u : ℕ) → p.homes u ≡ j → Depends p j i u → ⊥) → Only p Q j i
  only_lower {j = j} i (r, only) n = (
    r,
    λ u D. elim (ℕ_discrete (p.homes u) j) [
      | yes e ↦ absurd (n u e D)
      | no e ↦ only u (depends_up S j i u D (let h = depends_above S i u D in omega arith))
    ],
  )

  -- so it is with what is new, for no active variable is bound there
  pub only_new : (old act : ℕ) {j : ℕ} → Above act j → (i : ℕ) → Only p (λ u. T (has act u) → T (has old u)) (suc j) i
      → Only p (λ u. T (has act u) → T (has old u)) j i
  only_new old act {j} A i (r, only) = (
    r,
    λ u D a. elim (ℕ_discrete (p.homes u) j) [
      | yes e ↦ absurd (A u (depends_small S i u r D) a e)
      | no e ↦ only u (depends_up S j i u D (let h = depends_above S i u D in omega arith)) a
    ],
  )

  -- from below node j + 1 to below node j
  pub settled_lower : (act : ℕ) (w : List ℕ) (j : ℕ) → Above act j → Settled p act w (suc j) → Settled p act w j
  settled_lower act w j A T₁ m i l (r, only) =
      T₁ m i (omega arith) (
        r,
        λ u D. ⊎_elim (only u)
            (λ (v, e, E). absurd (A v (depends_small S i v r E) (only v E) e)) (depends_down S j i u D),
      )

  -- from below node j on, if it is right where it depends only on what is active, and so are the nodes below it that depend on a variable bound there
  pub settled_more : (act : ℕ) (w : List ℕ) (j : ℕ) → Settled p act w j
      → (Within (p.scopes j) act → RightAt p (as_bound p w) w j)
      → ((i : ℕ) → i < j → Only p (λ u. T (has act u)) (suc j) i → (u : ℕ) → p.homes u ≡ j → Depends p j i u → RightAt p (as_bound p w) w i)
      → Settled p act w (suc j)
  settled_more act w j T₁ here below m i l (r, only) x k = elim (ℕ_discrete i j) [
    | yes e ↦
        let own : (u : ℕ) → T (free u (formula_at (nodes_of p) j)) → T (has act u) =
        λ u t. only u (subst (λ i. Depends p (suc j) i u) (sym e) (own_depends S j u (subst Met e r) t)) in
        subst (λ i. RightAt p (as_bound p w) w i) (sym e) (here (within_mk S j act (subst Met e r) m own)) x k
    | no e ↦ elim (ℕ_discrete (block p w i x) (meaning p i (as_bound p w) x)) [
      | yes z ↦ z
      | no z ↦
          let h : i < j = omega arith in
          absurd (z (T₁ m i h (only_lower i (r, only) (λ u q D. z (below i h (r, only) u q D x k))) x k))
    ]
  ]
