-- What the rule of a sound plan says of its nodes and of what each depends on. The crates that fill tables cite these.
-- A scope has just the free variables, mark 16, and mark 17 of a node not reached; a node that is named gives its own but for the variable bound.
use Prim.Native.Nat.{ℕ, zero, suc, ◌+◌, ◌*◌, ◌^◌, ◌≤◌, ◌<◌}
use mathlib.Core.Bool.{Bool, true, false, not, or_comm}
use mathlib.Core.Logic.{inl, inr}
use mathlib.Core.Path.{◌≡◌, refl, sym, ap, ap₂, ◌∙◌, subst}
use native.Mathlib.Decide.{dec_lt, ℕ_discrete}
use native.Mathlib.Nat.{not-suc-le-zero, one-mul}
use native.Mathlib.Omega.{arith}
use borrow.Author.Tests.{eq-eqb, ne_eqb}
use lib.Bits.{bit_or, or_shifted_r}
use lib.Dec.{T, eqb, eqb→eq, T_not}
use Rattle.flc.specs.Sets.{both, either, has}
use Rattle.flc.specs.Formula.{Op, Formula, free}
use Rattle.flc.specs.Nodes.{Node, two, bind, tree, formula_at, Names}
use Rattle.flc.proofs.Tests.{both_left, both_right, both_mk, either_left, either_right, either_use}
use Rattle.flc.proofs.Masks.{has-set_of, has_beyond, has_or, has-single, set_of_lt, set_of_ext, set_of-none}
use Rattle.flc.proofs.Unfolding.{Lower, formula_at_node}
use Rattle.case_model.specs.Limits.{most_nodes, variables}
use Rattle.case_model.specs.Reach.{Reached, the_root, named}
use Rattle.case_model.proofs.Tests.{is_true, is_false}
use Rattle.case_model.proofs.Nodes.{Fits, fits-constant, fits_variable, fits_pair, fits_binder, holds_fits, fits_names}
use Rattle.case_plan.specs.Plans.{Plan, SoundRule, nodes_of, Within, free_set, scope_of, every_mark}

-- ---- scopes as numbers
-- a set of numbers below k, and k
has_top : (k x s : ℕ) → x < 2 ^ k → has (x + 2 ^ k) s ≡ either (has x s) (eqb k s)
has_top k x s h =
    let e : x + 2 ^ k ≡ bit_or x (1 * 2 ^ k) = omega (arith, or_shifted_r 1 k x h) in
    ap (λ y. has y s) (e ∙ ap (bit_or x) (one-mul (2 ^ k))) ∙ has_or x (2 ^ k) s ∙ ap (either (has x s)) (has-single k s)

-- the members of a scope
members : (x : ℕ) (r : Bool) (s : ℕ) → x < every_mark → has (scope_of x r) s ≡ either (both (not r) (eqb 17 s)) (either (has x s) (eqb 16 s))
unfolding both either
members x true s h =
    let e : scope_of x true ≡ x + 2 ^ 16 = omega arith in
    ap (λ y. has y s) e ∙ has_top 16 x s h
members x false s h =
    has_top 17 (x + every_mark) s (omega arith) ∙ or_comm _ (eqb 17 s) ∙ ap (either (eqb 17 s)) (has_top 16 x s h)

module _ {p : Plan} (S : SoundRule p) where
  -- ---- nodes
  pub node_fits : (j : ℕ) → j < p.count → Fits j (nodes_of p j)
  unfolding nodes_of
  node_fits j h = holds_fits j (p.nodes j) (S.kinds j h)

  pub node_lower : (j : ℕ) → j < p.count → Lower (nodes_of p) j
  node_lower j h = fits_names (nodes_of p j) (node_fits j h)

  abbrev φ : ℕ → Formula
  φ = formula_at (nodes_of p)

  unfolded : (j : ℕ) → j < p.count → (n : Node) → nodes_of p j ≡ n → φ j ≡ tree n φ
  unfolded j h n e = formula_at_node (nodes_of p) j (node_lower j h) ∙ ap (λ n. tree n φ) e

  -- no variable of 16 and up is free in a node
  free_low : (v : ℕ) → variables ≤ v → (k j : ℕ) → j < k → j < p.count → T (free v (φ j)) → ⊥
  unfolding free
  free_low v h zero j l m t = not-suc-le-zero l
  free_low v h (suc k) j l m t =
      go (nodes_of p j) (node_fits j m) (λ i g. free_low v h k i (omega arith) (omega arith)) (subst (λ f. T (free v f)) (unfolded j m _ refl) t)
    where
      go : (x : Node) → Fits j x → ((i : ℕ) → i < j → T (free v (φ i)) → ⊥) → T (free v (tree x φ)) → ⊥
      go _ (fits-constant y) ih t = t
      go _ (fits_variable u g) ih t = let e = eqb→eq v u t in omega arith
      go _ (fits_pair o a b p q) ih t = either_use _ _ (ih a p) (ih b q) t
      go _ (fits_binder d u b p q) ih t = ih b q (both_right _ _ t)

  free_set_lem : (j s : ℕ) → j < p.count → has (free_set p j) s ≡ free s (φ j)
  free_set_lem j s h = elim (dec_lt s variables) [
    | yes l ↦ has-set_of variables _ s l
    | no l ↦
        has_beyond variables (free_set p j) s (set_of_lt variables _) (omega arith)
        ∙ sym (is_false _ (free_low s (omega arith) (suc j) j (omega arith) h))
  ]

  -- ---- scopes
  abbrev reached : ℕ → Bool
  reached j = has S.scoped.reach j

  place : (j : ℕ) → j < p.count → j < most_nodes
  place j h = omega (arith, S.most)

  scope_is : (j s : ℕ) → j < p.count → has (p.scopes j) s ≡ either (both (not (reached j)) (eqb 17 s)) (either (free s (φ j)) (eqb 16 s))
  scope_is j s h =
      ap (λ x. has x s) (S.scoped.is j h) ∙ members (free_set p j) (reached j) s (set_of_lt variables _)
      ∙ ap (λ b. either (both (not (reached j)) (eqb 17 s)) (either b (eqb 16 s))) (free_set_lem j s h)

  -- its members are no others than these three
  pub scope_exact : {Q : Type 0} (j s : ℕ) → j < p.count → T (has (p.scopes j) s)
      → (T (free s (formula_at (nodes_of p) j)) → Q) → (s ≡ 16 → Q) → (s ≡ 17 → (Reached (nodes_of p) p.root j → ⊥) → Q) → Q
  scope_exact j s h t f e u =
      either_use _ _
      (λ t. u (sym (eqb→eq 17 s (both_right _ _ t))) (λ r. T_not (reached j) (both_left _ _ t) ((S.scoped.reached j (place j h)).1 r)))
      (either_use _ _ f (λ t. e (sym (eqb→eq 16 s t)))) (subst T (scope_is j s h) t)

  pub scope_frees : (j v : ℕ) → j < p.count → T (free v (formula_at (nodes_of p) j)) → (v < variables) × T (has (p.scopes j) v)
  scope_frees j v h t = (
    (elim (dec_lt v variables) [ yes l ↦ l | no l ↦ absurd (free_low v (omega arith) (suc j) j (omega arith) h t) ]),
    subst T (sym (scope_is j v h)) (either_right _ _ (either_left _ _ t)),
  )

  pub scope_mark : (j : ℕ) → j < p.count → T (has (p.scopes j) 16)
  scope_mark j h = subst T (sym (scope_is j 16 h)) (either_right _ _ (either_right _ (eqb 16 16) tt))

  scope_out : (j : ℕ) → j < p.count → (T (reached j) → ⊥) → T (has (p.scopes j) 17)
  scope_out j h n = subst T (sym (scope_is j 17 h)) (either_left _ _ (both_mk (not (reached j)) (eqb 17 17) (rw (is_false (reached j) n) tt) tt))

  pub scope_small : (j : ℕ) → j < p.count → p.scopes j < 2 ^ 18
  scope_small j h = rw (S.scoped.is j h) (small (reached j))
    where
      small : (r : Bool) → scope_of (free_set p j) r < 2 ^ 18
      small true = omega (arith, set_of_lt variables (λ v. free v (φ j)))
      small false = omega (arith, set_of_lt variables (λ v. free v (φ j)))

  pub scope_root : p.scopes p.root ≡ every_mark
  scope_root =
      let none : free_set p p.root ≡ 0 = set_of_ext variables _ _ (λ v l. is_false _ (S.closed v)) ∙ set_of-none variables in
      let r : reached p.root ≡ true = is_true _ ((S.scoped.reached p.root (place p.root S.root)).1 the_root) in
      S.scoped.is p.root S.root ∙ ap₂ scope_of none r

  -- ---- nodes that are named: a member is free there, or is one of the node that names it
  named_in : {Q : Type 0} (i j s : ℕ) → j < p.count → Names (nodes_of p j) i → T (has (p.scopes i) s)
      → (T (free s (φ i)) → Q) → (T (has (p.scopes j) s) → Q) → Q
  named_in i j s h n t f k =
      scope_exact i s (omega (arith, node_lower j h i n)) t f
      (λ e. k (rw e (scope_mark j h)))
      (λ e u. k (rw e (scope_out j h (λ r. u (named ((S.scoped.reached j (place j h)).0 r) n)))))

  pub scope_names : (j : ℕ) {o : Op} {a b : ℕ} → j < p.count → nodes_of p j ≡ two o a b
      → Within (p.scopes a) (p.scopes j) × Within (p.scopes b) (p.scopes j)
  unfolding free
  scope_names j {o} {a} {b} h e =
      let into : (s : ℕ) → T (either (free s (φ a)) (free s (φ b))) → T (has (p.scopes j) s) =
      λ s t. (scope_frees j s h (subst (λ f. T (free s f)) (sym (unfolded j h (two o a b) e)) t)).1 in (
        (λ s l t. named_in a j s h (subst (λ n. Names n a) (sym e) (inl refl)) t (λ t. into s (either_left _ _ t)) (λ t. t)),
        (λ s l t. named_in b j s h (subst (λ n. Names n b) (sym e) (inr refl)) t (λ t. into s (either_right _ _ t)) (λ t. t)),
      )

  pub scope_body : (j : ℕ) {d : Bool} {v b : ℕ} → j < p.count → nodes_of p j ≡ bind d v b
      → (s : ℕ) → s < 18 → T (has (p.scopes b) s) → T (either (has (p.scopes j) s) (eqb s v))
  unfolding free
  scope_body j {d} {v} {b} h e s l t =
      named_in b j s h (subst (λ n. Names n b) (sym e) refl) t
      (λ t. elim (ℕ_discrete s v) [
        | yes z ↦ either_right _ _ (rw (eq-eqb s v z) tt)
        | no z ↦ either_left _ _ (scope_frees j s h
            (subst (λ f. T (free s f)) (sym (unfolded j h (bind d v b) e)) (both_mk (not (eqb s v)) _ (rw (ne_eqb s v z) tt) t))).1
      ])
      (λ t. either_left _ _ t)
