-- What reached nodes depend on. A free variable of a reached node is bound by a higher node that is reached; and of two binders whose variables are free
-- in one node the lower has the other's variable free: both by following the way from the root down to the node.
use Prim.Native.Nat.{ℕ, zero, suc, ◌+◌, ◌≤◌, ◌<◌}
use mathlib.Core.Bool.{Bool, not}
use mathlib.Core.Logic.{◌⊎◌, inl, inr, ⊎_elim}
use mathlib.Core.Path.{◌≡◌, refl, sym, ap, ◌∙◌, subst}
use native.Mathlib.Decide.{dec_lt, ℕ_discrete}
use native.Mathlib.Omega.{arith}
use borrow.Author.Tests.{ne_eqb}
use lib.Dec.{T, eqb}
use Rattle.flc.specs.Sets.{has}
use Rattle.flc.specs.Formula.{free}
use Rattle.flc.specs.Nodes.{Node, leaf, two, bind, formula_at, Names}
use Rattle.flc.proofs.Tests.{both_mk, either_left, either_right}
use Rattle.case_model.specs.Limits.{variables}
use Rattle.case_model.specs.Reach.{Reached, the_root, named}
use Rattle.case_model.proofs.Nodes.{reached_under}
use Rattle.case_plan.specs.Plans.{Plan, nodes_of, Within, Sound}
use Rattle.case_plan.proofs.Scopes.{node_lower, scope_frees, scope_exact}
use Rattle.engine.specs.Dependence.{Depends, outer, inner}
use Rattle.engine.proofs.Plain.{unfolded}

module _ {p : Plan} (S : Sound p) where
  abbrev Free : ℕ → ℕ → Type 0
  Free u i = T (free u (formula_at (nodes_of p) i))

  abbrev Met : ℕ → Type 0
  Met = Reached (nodes_of p) p.root

  -- what is reached is not above the root
  pub reached_low : (i : ℕ) → Met i → i ≤ p.root
  reached_low = reached_under (λ i h. node_lower S.rule i (omega (arith, S.rule.root)))

  pub reached_there : (i : ℕ) → Met i → i < p.count
  reached_there i r = omega (arith, reached_low i r, S.rule.root)

  -- a variable free in a node that is named is free in the node that names it, or bound there
  up_or_bound : (i j u : ℕ) → i < p.count → Names (nodes_of p i) j → Free u j → ((d : Bool) × (b : ℕ) × (nodes_of p i ≡ bind d u b)) ⊎ Free u i
  unfolding free
  up_or_bound i j u h n t = go (nodes_of p i) refl n
    where
      go : (m : Node) → nodes_of p i ≡ m → Names m j → ((d : Bool) × (b : ℕ) × (nodes_of p i ≡ bind d u b)) ⊎ Free u i
      go (leaf q) e n = absurd n
      go (two o a b) e (inl q) = inr (subst (λ f. T (free u f)) (sym (unfolded S i h e)) (either_left _ _ (subst (Free u) q t)))
      go (two o a b) e (inr q) = inr (subst (λ f. T (free u f)) (sym (unfolded S i h e)) (either_right _ _ (subst (Free u) q t)))
      go (bind d v b) e q = elim (ℕ_discrete u v) [
        | yes z ↦ inl (d, b, e ∙ ap (λ v. bind d v b) (sym z))
        | no z ↦ inr (subst (λ f. T (free u f)) (sym (unfolded S i h e)) (both_mk (not (eqb u v)) _ (rw (ne_eqb u v z) tt) (subst (Free u) q t)))
      ]

  -- the binder of a variable that is free in a reached node
  pub record Bound (i u : ℕ) : Type 0 where
    pub least : Bool
    pub body : ℕ
    pub is : nodes_of p (p.homes u) ≡ bind least u body
    pub higher : i < p.homes u
    pub met : Met (p.homes u)

  pub bound : (i u : ℕ) → Met i → Free u i → Bound i u
  bound _ u the_root t = absurd (S.rule.closed u t)
  bound _ u (named {i} {j} r n) t = go (λ t. bound i u r t) (up_or_bound i j u (reached_there i r) n t)
    where
      go : (Free u i → Bound i u) → ((d : Bool) × (b : ℕ) × (nodes_of p i ≡ bind d u b)) ⊎ Free u i → Bound j u
      go up (inl (d, b, e)) =
          let q : p.homes u ≡ i = S.rule.homes i (reached_there i r) e in
          record {
            least = d;
            body = b;
            is = ap (nodes_of p) q ∙ e;
            higher = omega (arith, node_lower S.rule i (reached_there i r) j n);
            met = subst Met (sym q) r;
          }
      go up (inr t) =
          let B = up t in
          record {
            least = B.least;
            body = B.body;
            is = B.is;
            higher = omega (arith, B.higher, node_lower S.rule i (reached_there i r) j n);
            met = B.met;
          }

  -- of two the lower has the variable of the higher
  pub nested : (i v u : ℕ) → Met i → Free v i → Free u i → p.homes v < p.homes u → Free u (p.homes v)
  nested _ v u the_root t s l = absurd (S.rule.closed v t)
  nested _ v u (named {i} {j} r n) t s l =
      go (λ t s. nested i v u r t s l) (up_or_bound i j v (reached_there i r) n t) (up_or_bound i j u (reached_there i r) n s)
    where
      home : {w b : ℕ} {d : Bool} → nodes_of p i ≡ bind d w b → p.homes w ≡ i
      home e = S.rule.homes i (reached_there i r) e

      go : (Free v i → Free u i → Free u (p.homes v))
          → ((d : Bool) × (b : ℕ) × (nodes_of p i ≡ bind d v b)) ⊎ Free v i → ((d : Bool) × (b : ℕ) × (nodes_of p i ≡ bind d u b)) ⊎ Free u i
          → Free u (p.homes v)
      go up (inl (d, b, e)) (inl (d', b', e')) = absurd (omega (arith, l, home e, home e'))
      go up (inl (d, b, e)) (inr s) = subst (Free u) (sym (home e)) s
      go up (inr t) (inl (d, b, e)) = absurd (omega (arith, l, home e, (bound i v r t).higher))
      go up (inr t) (inr s) = up t s

  -- ---- dependence
  -- what a reached node depends on is bound by a reached node
  pub depends_met : {k : ℕ} (i u : ℕ) → Met i → Depends p k i u → Met (p.homes u)
  depends_met i u r (outer t h) = (bound i u r t).met
  depends_met i u r (inner {v = v} t h D) = depends_met (p.homes v) u (bound i v r t).met D

  pub depends_binder : {k : ℕ} (i u : ℕ) → Met i → Depends p k i u → (d : Bool) × (b : ℕ) × (nodes_of p (p.homes u) ≡ bind d u b)
  depends_binder i u r (outer t h) = let B = bound i u r t in (B.least, B.body, B.is)
  depends_binder i u r (inner {v = v} t h D) = depends_binder (p.homes v) u (bound i v r t).met D

  pub depends_small : {k : ℕ} (i u : ℕ) → Met i → Depends p k i u → u < variables
  depends_small i u r (outer t h) = (scope_frees S.rule i u (reached_there i r) t).0
  depends_small i u r (inner {v = v} t h D) = depends_small (p.homes v) u (bound i v r t).met D

  -- and not below k
  pub depends_above : {k : ℕ} (i u : ℕ) → Depends p k i u → k ≤ p.homes u
  depends_above i u (outer t h) = h
  depends_above i u (inner {v = v} t h D) = depends_above (p.homes v) u D

  -- a reached node depends, seen from below it and itself, on its free variables
  pub depends_own : {k : ℕ} (j u : ℕ) → Met j → k ≤ suc j → Depends p k j u → Free u j
  depends_own j u r l (outer t h) = t
  depends_own j u r l (inner {v = v} t h D) = absurd (omega (arith, (bound j v r t).higher))

  pub own_depends : (j u : ℕ) → Met j → Free u j → Depends p (suc j) j u
  own_depends j u r t = outer t (bound j u r t).higher

  module _ (j : ℕ) where
    -- seen from one node higher: what is bound higher stays
    pub depends_up : (i u : ℕ) → Depends p j i u → suc j ≤ p.homes u → Depends p (suc j) i u
    depends_up i u (outer t h) l = outer t l
    depends_up i u (inner {v = v} t h D) l = inner t (omega arith) (depends_up (p.homes v) u D l)

    -- and in place of a variable bound there comes what its binder depends on
    pub depends_through : (i v u : ℕ) → Depends p j i v → p.homes v ≡ j → Depends p (suc j) j u → Depends p (suc j) i u
    depends_through i v u (outer t h) e D = inner t (omega arith) (subst (λ j'. Depends p (suc j) j' u) (sym e) D)
    depends_through i v u (inner {v = v'} t h E) e D = inner t (omega arith) (depends_through (p.homes v') v u E e D)

    -- and back
    pub depends_down : (i u : ℕ) → Depends p (suc j) i u → Depends p j i u ⊎ ((v : ℕ) × (p.homes v ≡ j) × Depends p j i v)
    depends_down i u (outer t h) = inl (outer t (omega arith))
    depends_down i u (inner {v = v} t h D) = elim (ℕ_discrete (p.homes v) j) [
      | yes e ↦ inr (v, e, outer t (omega arith))
      | no e ↦ ⊎_elim (λ E. inl (inner t (omega arith) E)) (λ x. inr (x.0, x.1, inner t (omega arith) x.2)) (depends_down (p.homes v) u D)
    ]

    -- a node that depends on the variable bound at j depends, beyond j, only on what is free there
    within_binder : (k i v u : ℕ) → p.count ≤ i + k → Met i → Depends p j i v → p.homes v ≡ j → Depends p (suc j) i u → Free u j
    within_binder zero i v u h r D e E = absurd (omega (arith, reached_there i r))
    within_binder (suc k) i v u h r (outer t a) e (outer s b) = subst (Free u) e (nested i v u r t s (omega arith))
    within_binder (suc k) i v u h r (outer t a) e (inner {v = w} s b E) = elim (ℕ_discrete (p.homes w) j) [
      | yes q ↦ depends_own j u (subst Met q (bound i w r s).met) (omega arith) (subst (λ j'. Depends p (suc j) j' u) q E)
      | no q ↦ within_binder k (p.homes w) v u (omega (arith, (bound i w r s).higher)) (bound i w r s).met
          (outer (nested i w v r s t (omega arith)) a) e E
    ]
    within_binder (suc k) i v u h r (inner {v = w} t a D) e (outer s b) =
        within_binder k (p.homes w) v u (omega (arith, (bound i w r t).higher)) (bound i w r t).met D e (outer (nested i w u r t s (omega arith)) b)
    within_binder (suc k) i v u h r (inner {v = w} t a D) e (inner {v = x} s b E) = elim (ℕ_discrete (p.homes w) (p.homes x)) [
      | yes q ↦ within_binder k (p.homes w) v u (omega (arith, (bound i w r t).higher)) (bound i w r t).met D e
          (subst (λ j'. Depends p (suc j) j' u) (sym q) E)
      | no q ↦ elim (dec_lt (p.homes w) (p.homes x)) [
        | yes l ↦ within_binder k (p.homes w) v u (omega (arith, (bound i w r t).higher)) (bound i w r t).met D e (inner (nested i w x r t s l) b E)
        | no l ↦ within_binder k (p.homes x) v u (omega (arith, (bound i x r s).higher)) (bound i x r s).met
            (inner (nested i x w r s t (omega arith)) a D) e E
      ]
    ]

    pub depends_within : (i v u : ℕ) → Met i → Depends p j i v → p.homes v ≡ j → Depends p (suc j) i u → Free u j
    depends_within i v u = within_binder p.count i v u (omega arith)

  -- ---- scopes of reached nodes
  -- one has the mark and the free variables alone
  pub within_mk : (j act : ℕ) → Met j → T (has act 16) → ((u : ℕ) → Free u j → T (has act u)) → Within (p.scopes j) act
  within_mk j act r m f s k t =
      scope_exact S.rule j s (reached_there j r) t (f s) (λ e. subst (λ s. T (has act s)) (sym e) m) (λ e n. absurd (n r))
