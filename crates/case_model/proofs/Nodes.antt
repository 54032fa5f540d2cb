-- The nodes of a valid case: what each can be, and what follows for the nodes it names, for binders and for free variables.
-- From the lines of the table of kinds, kind by kind; a variable of 16 and up stands in no node, so it is free in no tree.
use Prim.Native.Nat.{ℕ, zero, suc, ◌≤◌, ◌<◌}
use mathlib.Core.Bool.{Bool, true, false, ◌&&◌, cond}
use mathlib.Core.Logic.{inl, inr}
use mathlib.Core.Path.{◌≡◌, sym, ap, subst}
use native.Mathlib.Decide.{dec_lt}
use native.Mathlib.Omega.{arith}
use borrow.Author.Tests.{eqb-true, ltb-true, eq-eqb}
use lib.Dec.{T, eqb, ltb, eqb→eq, T_not}
use lib.ListN.{length, get_or-eq_default}
use Rattle.flc.specs.Sets.{for_some}
use Rattle.flc.specs.Formula.{Atom, Op, Formula, atom, var, free}
use Rattle.flc.specs.Nodes.{Node, leaf, two, bind, tree, lower, formula_at, Names}
use Rattle.flc.proofs.Tests.{either_use, both_right, for_all_use, for_some_mk}
use Rattle.flc.proofs.Unfolding.{Lower}
use Rattle.case_model.specs.Case.{Case, at, node_at, rule}
use Rattle.case_model.specs.Kinds.{Triple, Kind, fits, kinds, kind_at, node_of, node_holds, is_binder}
use Rattle.case_model.specs.Reach.{Reached, the_root, named}
use Rattle.case_model.specs.Rows.{binds, root_closed}
use Rattle.case_model.specs.Limits.{variables}
use Rattle.case_model.proofs.Tests.{is_true, and_l, and_r}
use Rattle.case_model.proofs.KindLines.{Line, constant, variable, pair, binder, line, bind_operands}
use Rattle.case_model.specs.Valid.{ValidRule}

-- what node j can be
pub data Fits (j : ℕ) : Node → Type 0 where
  fits-constant : (x : Atom) → Fits j (leaf (atom x))
  fits_variable : (v : ℕ) → v < variables → Fits j (leaf (var v))
  fits_pair : (o : Op) (a b : ℕ) → a < j → b < j → Fits j (two o a b)
  fits_binder : (d : Bool) (v b : ℕ) → v < variables → b < j → Fits j (bind d v b)

-- a line of the table of kinds says so
pub holds_fits : (j : ℕ) (t : Triple) → node_holds j t ≡ true → Fits j (node_of t)
holds_fits j t e = go (kind_at t.0) (line t.0) (and_r (ltb t.0 (length kinds)) _ e)
  where
    go : (κ : Kind) → Line κ → (fits κ.first j t.1 && fits κ.second j t.2) ≡ true → Fits j (κ.node t.1 t.2)
    go _ (constant f x n) e = fits-constant (f t.1)
    go _ variable e = fits_variable t.1 (ltb-true _ _ (search and_l))
    go _ (pair o) e = fits_pair o t.1 t.2 (ltb-true _ _ (search and_l)) (ltb-true _ _ (search and_r))
    go _ (binder d) e = fits_binder d t.1 t.2 (ltb-true _ _ (search and_l)) (ltb-true _ _ (search and_r))

-- the nodes that it names
pub fits_names : {j : ℕ} (n : Node) → Fits j n → (i : ℕ) → Names n i → i < j
fits_names _ (fits-constant x) i h = absurd h
fits_names _ (fits_variable v l) i h = absurd h
fits_names _ (fits_pair o a b p q) i (inl e) = omega arith
fits_names _ (fits_pair o a b p q) i (inr e) = omega arith
fits_names _ (fits_binder d v b p q) i e = omega arith

-- a binder's operands
pub fits_bind : {j : ℕ} {d : Bool} {v b : ℕ} (n : Node) → Fits j n → n ≡ bind d v b → (v < variables) × (b < j)
fits_bind _ (fits-constant x) e = absurd (let z : ◌≡◌ {A = ℕ} 0 1 = cc in omega arith)
fits_bind _ (fits_variable u l) e = absurd (let z : ◌≡◌ {A = ℕ} 0 1 = cc in omega arith)
fits_bind _ (fits_pair o f g p q) e = absurd (let z : ◌≡◌ {A = ℕ} 0 1 = cc in omega arith)
fits_bind {v = v} {b} _ (fits_binder f u g p q) e = let a : u ≡ v = cc in let z : g ≡ b = cc in (omega arith, omega arith)

-- a variable of 16 and up is free in no node's tree that is made of trees without it
fits-free : {j : ℕ} (w : ℕ) → variables ≤ w → (n : Node) → Fits j n → (φ : ℕ → Formula) → ((i : ℕ) → T (free w (φ i)) → ⊥) → T (free w (tree n φ)) → ⊥
unfolding free
fits-free w h _ (fits-constant x) φ f t = t
fits-free w h _ (fits_variable v l) φ f t = let e = eqb→eq w v t in omega arith
fits-free w h _ (fits_pair o a b p q) φ f t = either_use _ _ (f a) (f b) t
fits-free w h _ (fits_binder d v b p q) φ f t = f b (both_right _ _ t)

-- a node that is a binder binds its variable
bind_binds : (t : Triple) (d : Bool) (v b : ℕ) → node_of t ≡ bind d v b → binds t v ≡ true
bind_binds t d v b e = rw (ap is_binder e) (eq-eqb t.1 v (bind_operands t e).0)

-- what is reached from a root is not above it, if no node up to it names a higher one
pub reached_under : {N : ℕ → Node} {root : ℕ} → ((i : ℕ) → i ≤ root → Lower N i) → (j : ℕ) → Reached N root j → j ≤ root
reached_under low _ the_root = omega arith
reached_under low j (named {i} r e) = let l = reached_under low i r in omega (arith, low i l j e)

module _ {c : Case} (valid : ValidRule c) where
  pub node_fits : (j : ℕ) → j < length c.nodes → Fits j (node_at c j)
  unfolding node_at
  node_fits j h = holds_fits j (at c.nodes j) (valid.kinds j h)

  pub node_lower : (j : ℕ) → j < length c.nodes → Lower (node_at c) j
  node_lower j h = fits_names (node_at c j) (node_fits j h)

  -- a node past the end names nothing
  pub all_lower : (j : ℕ) → Lower (node_at c) j
  unfolding node_at kind_at kinds
  all_lower j = elim (dec_lt j (length c.nodes)) [
    | yes h ↦ node_lower j h
    | no h ↦ λ i e. absurd (subst (λ t. Names ((kind_at t.0).node t.1 t.2) i) (get_or-eq_default c.nodes (0, 0, 0) {n = j} (omega arith)) e)
  ]

  -- so what is reached is not above the root
  pub reached_low : (j : ℕ) → Reached (node_at c) c.root j → j ≤ c.root
  reached_low = reached_under (λ i _. all_lower i)

  -- no two binders of one variable
  apart : (i j v : ℕ) → i < j → j < length c.nodes → binds (at c.nodes i) v ≡ true → binds (at c.nodes j) v ≡ true → ⊥
  unfolding node_at
  apart i j v l h p q =
      let x : Triple = at c.nodes j in
      let e : x.1 ≡ v = eqb-true x.1 v (search and_r) in
      let k : is_binder (node_of x) ≡ true = search and_l in
      let s : for_some j (λ i. binds (at c.nodes i) x.1) ≡ true = is_true _ (for_some_mk j _ i l (rw (e, p) tt)) in
      let z : ◌≡◌ {A = ℕ} 0 1 = cc (valid.binders j h) in
      omega arith

  -- a variable has one binder
  pub one_binder : {d d' : Bool} {v b b' : ℕ} (i j : ℕ) → i < length c.nodes → j < length c.nodes
      → node_at c i ≡ bind d v b → node_at c j ≡ bind d' v b' → i ≡ j
  unfolding node_at
  one_binder {d} {d'} {v} {b} {b'} i j h k p q =
      let p' = bind_binds (at c.nodes i) d v b p in
      let q' = bind_binds (at c.nodes j) d' v b' q in
      elim (dec_lt i j) [
        | yes l ↦ absurd (apart i j v l k p' q')
        | no l ↦ elim (dec_lt j i) [
          | yes l' ↦ absurd (apart j i v l' h q' p')
          | no l' ↦ omega arith
        ]
      ]

  -- no variable of 16 and up in the trees below node j
  free-below : (w : ℕ) → variables ≤ w → (j : ℕ) → j ≤ length c.nodes → (i : ℕ) → T (free w (lower (node_at c) j i)) → ⊥
  unfolding lower free
  free-below w h zero k i t = t
  free-below w h (suc j) k i t = elim (eqb i j) as (λ b. T (free w (cond b (tree (node_at c j) (lower (node_at c) j)) (lower (node_at c) j i))) → ⊥) [
    | true ↦ fits-free w h (node_at c j) (node_fits j k) (lower (node_at c) j) (free-below w h j (omega arith))
    | false ↦ free-below w h j (omega arith) i
  ] t

  -- no variable of any number is free in the root
  pub closed_all : (w : ℕ) → T (free w (rule c)) → ⊥
  unfolding rule formula_at root_closed
  closed_all w t = elim (dec_lt w variables) [
    | yes h ↦ T_not (free w (rule c)) (for_all_use variables _ (subst T (sym valid.closed) tt) w h) t
    | no h ↦ fits-free w (omega arith) (node_at c c.root) (node_fits c.root valid.root) (lower (node_at c) c.root)
        (free-below w (omega arith) c.root (omega (arith, valid.root))) t
  ]
