-- A binder from its call to its end: it begins with the old table or with approximant 0, from both of which the iterates of its body rise to the
-- fixed point; they stand still after n × 2^n rounds at the latest, and where they do they are the fixed point.
use Prim.Native.Nat.{ℕ, suc, ◌-◌, ◌*◌, ◌^◌, ◌<◌}
use mathlib.Core.Bool.{Bool, true, false, not, cond}
use mathlib.Core.List.{List}
use mathlib.Core.Logic.{⊎_elim}
use mathlib.Core.Path.{◌≡◌, refl, sym, ap, ◌∙◌, subst}
use native.Mathlib.Decide.{ℕ_discrete}
use native.Mathlib.Omega.{arith}
use borrow.Author.Tests.{eq-eqb}
use lib.Dec.{T}
use Rattle.flc.specs.Sets.{has, set_of}
use Rattle.flc.proofs.Tests.{either_left, either_right}
use Rattle.flc.specs.Functions.{Fun, approximant}
use Rattle.flc.specs.Formula.{fix, Env, mean}
use Rattle.flc.specs.Nodes.{bind, formula_at}
use Rattle.flc.specs.Order.{Agree, GoodEnv}
use Rattle.flc.specs.Iterates.{iterate, Rising}
use Rattle.flc.proofs.Masks.{set_of-none, set_all}
use Rattle.flc.proofs.FixedPoints.{Steady, rising_agree, iterate-agree, iterate_fixed, approx_iterate, approx_rising}
use Rattle.flc.proofs.Rounds.{settled, rounds_unique}
use Rattle.flc.proofs.Meanings.{mean_steady, mean_rising, mean_fix}
use Rattle.std.specs.Prelude.{Option, None}
use Rattle.case_model.specs.Areas.{Filled}
use Rattle.case_plan.specs.declared.moves.Direction.{Direction}
use Rattle.case_plan.specs.Moves.{direction, goes_on}
use Rattle.case_plan.specs.Plans.{Plan, table_of, nodes_of, meaning, Sound}
use Rattle.case_plan.proofs.Directions.{goes_on-same}
use Rattle.engine.specs.declared.refresh.Binder.{Binder}
use Rattle.engine.specs.Blocks.{block, Kept, env, Right, RightAt}
use Rattle.engine.specs.Dependence.{Only, as_bound, Settled}
use Rattle.engine.specs.Moves.{begins, Older}
use Rattle.engine.specs.Computing.{Computable, Computed, rounds_in, body, wider, Iterable, Iterated, Still, after}
use Rattle.engine.proofs.Frames.{in_table, kept_trans, filled_kept, filled_lower, wider_mk}
use Rattle.engine.proofs.Depending.{depends_binder, depends_above, depends_up}
use Rattle.engine.proofs.Staying.{right_as_bound, settled_filled, settled_more}
use Rattle.engine.proofs.Refreshing.{env_same, ready_after, ready_above}
use Rattle.engine.proofs.Plain.{unfolded}

-- where a binder's table begins, by the test of its direction
pub begins_old : (d : Bool) (grown : Option Direction) → goes_on (direction d) grown ≡ true → (size : ℕ) (old : Fun) (x : ℕ) → begins d grown size old x ≡ old x
begins_old d grown e size old x = rw e

pub begins-anew : (d : Bool) (grown : Option Direction) → goes_on (direction d) grown ≡ false → (size : ℕ) (old : Fun) (x : ℕ)
    → begins d grown size old x ≡ cond d 0 (size - 1)
begins-anew d grown e size old x = rw e

-- ---- from the call
module _ {p : Plan} {w w₀ : List ℕ} {act : ℕ} {grown : Option Direction} (x : Binder) (d : Bool) (C : Computable p w x.node act grown)
    (e : nodes_of p x.node ≡ bind d x.variable x.body)
    (F : Filled w w₀ (x.node * p.size) p.size (begins d grown p.size (block p w x.node))) where
  S : Sound p
  S = C.ready.sound

  size : (q : ℕ) → q < 2 ^ p.states → q < p.size
  size = in_table S

  -- the node's function, from that of its body
  binder_mean : (ρ : Env) → meaning p x.node ρ ≡ mean (table_of p) (fix d x.variable (formula_at (nodes_of p) x.body)) ρ
  binder_mean ρ = ap (λ φ. mean (table_of p) φ ρ) (unfolded S x.node C.ready.below e)

  kept : Kept p w w₀ (suc x.node)
  kept = filled_kept p F

  same : env p act w₀ ≡ env p act w
  same = env_same C.ready kept (omega arith)

  steady : Steady p.states (body p (env p act w) x)
  steady = mean_steady (table_of p) (formula_at (nodes_of p) x.body) x.variable (env p act w) C.ready.good

  -- approximant 0, if it starts anew
  from_zero : goes_on (direction d) grown ≡ false → Agree p.states (block p w₀ x.node) (approximant d p.states (body p (env p act w) x) 0)
  unfolding approximant
  from_zero n q k = F.inside q (size q k) ∙ begins-anew d grown n p.size (block p w x.node) q ∙ first d
    where
      first : (d : Bool) → cond d 0 (p.size - 1) ≡ set_of p.states (λ s. not d)
      first true = sym (set_of-none p.states)
      first false = ap (λ k. k - 1) S.sized.size ∙ sym (set_all p.states)

  -- else the function of the node in an environment below
  from_old : goes_on (direction d) grown ≡ true → Older p.states d (env p act w) (λ σ. RightAt p σ w x.node)
      → Rising d p.states (body p (env p act w) x) (block p w₀ x.node)
  from_old q O =
      rising_agree d steady
      (mean_rising d (table_of p) x.variable (formula_at (nodes_of p) x.body) O.env (env p act w) O.good C.ready.good O.below)
      (λ y k. F.inside y (size y k) ∙ begins_old d grown q p.size (block p w x.node) y ∙ O.held y k ∙ ap (λ f. f y) (binder_mean O.env))

  rising : Rising d p.states (body p (env p act w) x) (block p w₀ x.node)
  rising = go (goes_on (direction d) grown) refl
    where
      go : (b : Bool) → goes_on (direction d) grown ≡ b → Rising d p.states (body p (env p act w) x) (block p w₀ x.node)
      go true q = from_old q (C.older d (goes_on-same (direction d) grown q))
      go false q = rising_agree d steady (approx_rising d) (from_zero q)

  pub iterable : Iterable p w₀ x act (direction d)
  iterable = record {
    binds = record {
      least = d;
      is = e;
      ready = ready_after C.ready kept (omega arith) (omega arith);
      within = C.within;
      right = subst (λ ρ. Right p ρ act w₀ x.node) (sym same) (λ i l h q k. filled_lower p F i q l (size q k) ∙ C.right i l h q k);
      settled = settled_filled S act (ready_above C.ready (omega arith)) F C.settled;
    };
    rises = d;
    along = refl;
    rising = subst (λ ρ. Rising d p.states (body p ρ x) (block p w₀ x.node)) (sym same) rising;
  }

  -- ---- to the end
  module _ {z : List ℕ} {most r : ℕ} (enough : p.states * p.size < most) (I : Iterated p w₀ z x act most r) where
    -- the iterates, by the functions at the call
    abbrev iter : ℕ → Fun
    iter i = iterate (body p (env p act w) x) (block p w₀ x.node) i

    by_call : after p w₀ x act ≡ iterate (body p (env p act w) x) (block p w₀ x.node)
    by_call = ap (λ ρ. iterate (body p ρ x) (block p w₀ x.node)) same

    moved : (i : ℕ) → i < r → Agree p.states (iter i) (iter (suc i)) → ⊥
    moved = subst (λ (A : ℕ → Fun). (i : ℕ) → i < r → Agree p.states (A i) (A (suc i)) → ⊥) by_call I.moved

    now : Agree p.states (block p z x.node) (iter r)
    now = subst (λ (A : ℕ → Fun). Agree p.states (block p z x.node) (A r)) by_call I.now

    -- there may be more than the rounds that they take
    end : Still p w₀ z x act r
    end = ⊎_elim
        (λ m. absurd (moved (p.states * 2 ^ p.states) (omega (arith, enough, ap (λ k. p.states * k) S.sized.size))
        (settled d steady rising (p.states * 2 ^ p.states) (omega arith))))
        (λ s. s)
        I.ends

    still : Agree p.states (iter r) (iter (suc r))
    still = subst (λ (A : ℕ → Fun). Agree p.states (A r) (A (suc r))) by_call end.stands

    right : RightAt p (env p act w) z x.node
    right q k =
        now q k ∙ sym (iterate_fixed d steady rising r still q k)
        ∙ ap (λ f. f q) (sym (mean_fix (table_of p) d x.variable (formula_at (nodes_of p) x.body) (env p act w)) ∙ sym (binder_mean (env p act w)))

    -- begun with approximant 0, they are the approximants
    approximants : grown ≡ None → (i : ℕ) → Agree p.states (iter i) (approximant d p.states (body p (env p act w) x) i)
    approximants g i q k =
        let n : goes_on (direction d) grown ≡ false = ap (goes_on (direction d)) g in
        iterate-agree steady rising.good (approx_rising d {F = body p (env p act w) x}).good (from_zero n) i q k
        ∙ ap (λ (A : ℕ → Fun). A i q) (approx_iterate d p.states (body p (env p act w) x))

    rounds : grown ≡ None → r ≡ rounds_in (table_of p) (nodes_of p x.node) (formula_at (nodes_of p)) (env p act w)
    rounds g =
        let A = approximants g in
        rounds_unique d steady r (λ q k. sym (A r q k) ∙ still q k ∙ A (suc r) q k)
        (λ i l h. moved i l (λ q k. A i q k ∙ h q k ∙ sym (A (suc i) q k)))
        ∙ ap (λ m. rounds_in (table_of p) m (formula_at (nodes_of p)) (env p act w)) (sym e)

    -- the lower nodes are right with the table at the end, those too that depend on the variable
    after_call : env p act z ≡ env p act w
    after_call = env_same C.ready (kept_trans kept I.kept (omega arith)) (omega arith)

    wide : (u : ℕ) → T (has act u) → T (has (wider act x) u)
    wide u t = wider_mk act x.variable u (either_left _ _ t)

    lower : (i : ℕ) → i < x.node → Only p (λ u. T (has act u)) (suc x.node) i → RightAt p (as_bound p z) z i
    lower i l (m, only) = end.settled (wide 16 C.ready.mark) i l (
      m,
      λ u D. elim (ℕ_discrete (p.homes u) x.node) [
        | yes h ↦
            let (f, b, q) = depends_binder S i u m D in
            let z : bind f u b ≡ bind d x.variable x.body = sym q ∙ ap (nodes_of p) h ∙ e in
            let s : u ≡ x.variable = cc in
            wider_mk act x.variable u (either_right _ _ (rw (eq-eqb u x.variable s) tt))
        | no h ↦ wide u (only u (depends_up S x.node i u D (let g = depends_above S i u D in omega arith)))
      ],
    )

    all_right : Settled p act z (suc x.node)
    all_right =
        let good = subst (GoodEnv p.states) (sym after_call) C.ready.good in
        settled_more S act z x.node I.settled
        (λ a. right_as_bound S act z good x.node C.ready.below a (subst (λ ρ. RightAt p ρ z x.node) (sym after_call) right))
        (λ i l only u q D. lower i l only)

    pub computed_binder : Computed p w z x.node act grown r
    computed_binder = record {
      kept = kept_trans kept I.kept (omega arith);
      right = λ i l h. elim (ℕ_discrete i x.node) [
        | yes q ↦ subst (λ i. RightAt p (env p act w) z i) (sym q) right
        | no q ↦ subst (λ ρ. Right p ρ act z x.node) same I.right i (omega arith) h
      ];
      rounds = rounds;
      settled = all_right;
      stayed = λ i l only q k. I.stayed i l only q k ∙ filled_lower p F i q l k;
    }
