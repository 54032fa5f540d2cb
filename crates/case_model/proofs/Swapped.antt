-- The nodes of a case in which node j gave way to others: where each is found, and that rows 5 and 6 still pass.
-- What a law must bring for that is one record; then every lawful relation holds of each node and what it became.
use Prim.Native.Nat.{ℕ, suc, ◌+◌, ◌-◌, ◌≤◌, ◌<◌}
use mathlib.Core.Bool.{true, false, false≢true}
use mathlib.Core.List.{List, ◌++◌, map}
use mathlib.Core.Path.{◌≡◌, refl, sym, ap, ◌∙◌, subst}
use native.Mathlib.Decide.{dec_lt, ℕ_discrete}
use native.Mathlib.Omega.{arith}
use borrow.Author.Tests.{eqb-true, eq-eqb}
use lib.Dec.{T}
use lib.ListN.{length, take, drop, length-append, length-drop, length-map, get_or-map, get_or-append}
use lib.Seq.{get_or-append-add, get_or-take, get_or-drop, length-take-le}
use Rattle.flc.specs.Sets.{for_some}
use Rattle.flc.specs.Formula.{Formula}
use Rattle.flc.specs.Nodes.{tree, formula_at}
use Rattle.flc.proofs.Tests.{for_some_use, for_some_mk}
use Rattle.flc.proofs.Unfolding.{formula_at_node}
use Rattle.case_model.specs.Case.{Case, at, node_at}
use Rattle.case_model.specs.Kinds.{Triple, kinds, kind_at, node_of, node_holds, is_binder}
use Rattle.case_model.specs.Rows.{binds, binder_wrong}
use Rattle.case_model.specs.Rewriting.{swap, renamed, rewrite}
use Rattle.case_model.proofs.Tests.{is_true, is_false, and_l, and_r}
use Rattle.case_model.proofs.Nodes.{node_lower}
use Rattle.case_model.specs.Valid.{ValidRule}
use Rattle.case_model.proofs.Lawful.{Lawful, rewritten}
use Rattle.case_model.proofs.RenamedNodes.{tree-renamed, binds-renamed, renamed-holds, holds-lower, Pairs, pairs-at, pair_holds, pair_plain}

-- ---- where the nodes are found: below j, in place of j, above j
module _ (c : Case) (j : ℕ) (l : List Triple) (g : ℕ → ℕ) (within : j < length c.nodes) where
  front : length (map (renamed g) (take j c.nodes)) ≡ j
  front = length-map (take j c.nodes) (renamed g) ∙ length-take-le j c.nodes (omega arith)

  pub length_new : suc (length (rewrite c j (swap l g)).nodes) ≡ length c.nodes + length l
  unfolding rewrite
  length_new = simp (length-append, front, length-map, length-drop) (omega arith)

  pub new_low : (i : ℕ) → i < j → at (rewrite c j (swap l g)).nodes i ≡ renamed g (at c.nodes i)
  unfolding rewrite kind_at kinds
  new_low i h =
      get_or-append (map (renamed g) (take j c.nodes)) _ (0, 0, 0) i (rw front h)
      ∙ get_or-map (renamed g) (take j c.nodes) i (0, 0, 0) ∙ ap (renamed g) (get_or-take j c.nodes i (0, 0, 0) h)

  -- from node j on
  rest : (i : ℕ) → at (rewrite c j (swap l g)).nodes (j + i) ≡ at (l ++ map (renamed g) (drop (suc j) c.nodes)) i
  unfolding rewrite
  rest i =
      let a : List Triple = map (renamed g) (take j c.nodes) in
      let b : List Triple = l ++ map (renamed g) (drop (suc j) c.nodes) in
      subst (λ z. at (a ++ b) (z + i) ≡ at b i) front (get_or-append-add a b i (0, 0, 0))

  pub new_mid : (i : ℕ) → i < length l → at (rewrite c j (swap l g)).nodes (j + i) ≡ at l i
  new_mid i h = rest i ∙ get_or-append l _ (0, 0, 0) i h

  pub new_high : (i : ℕ) → j < i → at (rewrite c j (swap l g)).nodes (i + length l - 1) ≡ renamed g (at c.nodes i)
  unfolding kind_at kinds
  new_high i h =
      let e : i + length l - 1 ≡ j + (length l + (i - suc j)) = omega arith in
      let q : suc j + (i - suc j) ≡ i = omega arith in
      rw (e, rest (length l + (i - suc j)), get_or-append-add l)
      (get_or-map (renamed g) (drop (suc j) c.nodes) (i - suc j) (0, 0, 0)
      ∙ ap (renamed g) (get_or-drop (suc j) c.nodes (i - suc j) (0, 0, 0) ∙ ap (at c.nodes) q))

-- whatever the lawful relation: if it holds of the nodes below j and what they became, it holds of node j and of node k of the new case
abbrev pub Becomes : Case → ℕ → List Triple → ℕ → Type 1
Becomes c j l k =
    (R : Formula → Formula → Type 0) → Lawful R → (ψ : ℕ → Formula)
    → ((i p : ℕ) → p ≡ j + i → i < length l → ψ p ≡ tree (node_of (at l i)) ψ)
    → ((i : ℕ) → i < j → R (formula_at (node_at c) i) (ψ i)) → R (formula_at (node_at c) j) (ψ k)

-- what a law brings: the nodes l put in for node j, and the renaming g of the nodes named
pub record Fit (c : Case) (j : ℕ) (l : List Triple) (g : ℕ → ℕ) : Type 1 where
  pub within : j < length c.nodes
  pub some : 1 ≤ length l
  pub low : (i : ℕ) → i < j → g i ≡ i
  pub high : (i : ℕ) → j < i → g i ≡ i + length l - 1
  pub here : g j < j + length l
  pub pairs : Pairs j l
  pub law : Becomes c j l (g j)

module _ {c : Case} (valid : ValidRule c) {j : ℕ} {l : List Triple} {g : ℕ → ℕ} (F : Fit c j l g) where
  -- the new case, and how many nodes it has
  abbrev new : Case
  new = rewrite c j (swap l g)

  count : suc (length new.nodes) ≡ length c.nodes + length l
  count = length_new c j l g F.within

  -- ---- the renaming: lower nodes become lower nodes
  rises : (x i : ℕ) → x < i → (i ≡ j → ⊥) → g x < g i
  rises x i h n = elim (dec_lt i j) [
    | yes p ↦ rw (F.low i p, F.low x (omega arith)) h
    | no p ↦ rw (F.high i (omega arith)) (elim (dec_lt x j) [
      | yes q ↦ rw (F.low x q) (omega (arith, F.some))
      | no q ↦ elim (ℕ_discrete x j) [
        | yes e ↦ rw e (omega (arith, F.here))
        | no e ↦ rw (F.high x (omega arith)) (omega (arith, F.some))
      ]
    ])
  ]

  -- and nodes become nodes
  pub became_lt : (i : ℕ) → i < length c.nodes → g i < length new.nodes
  became_lt i h = elim (dec_lt i j) [
    | yes p ↦ rw (F.low i p) (omega (arith, F.within, F.some, count))
    | no p ↦ elim (ℕ_discrete i j) [
      | yes e ↦ rw e (omega (arith, F.here, F.within, count))
      | no e ↦ rw (F.high i (omega arith)) (omega (arith, F.some, count))
    ]
  ]

  -- node i, all but j
  gone : (i : ℕ) → (i ≡ j → ⊥) → at new.nodes (g i) ≡ renamed g (at c.nodes i)
  gone i n = elim (dec_lt i j) [
    | yes p ↦ rw (F.low i p) (new_low c j l g F.within i p)
    | no p ↦ rw (F.high i (omega arith)) (new_high c j l g F.within i (omega arith))
  ]

  -- every node of the new case
  data From (i : ℕ) : Type 0 where
    old : (x : ℕ) → x < length c.nodes → (x ≡ j → ⊥) → i ≡ g x → From i
    put : (x : ℕ) → x < length l → i ≡ j + x → From i

  from : (i : ℕ) → i < length new.nodes → From i
  from i h = elim (dec_lt i j) [
    | yes p ↦ old i (omega (arith, F.within)) (λ e. omega arith) (sym (F.low i p))
    | no p ↦ elim (dec_lt i (j + length l)) [
      | yes q ↦ put (i - j) (omega arith) (omega arith)
      | no q ↦
          let x : ℕ = i + 1 - length l in
          old x (omega (arith, count, F.some)) (λ e. omega (arith, F.some)) (sym (F.high x (omega (arith, F.some)) ∙ omega (arith, F.some)))
    ]
  ]

  -- ---- row 5
  pub new_kinds : (i : ℕ) → i < length new.nodes → node_holds i (at new.nodes i) ≡ true
  new_kinds i h = go (from i h)
    where
      go : From i → node_holds i (at new.nodes i) ≡ true
      go (old x k n e) = rw (e, gone x n) (renamed-holds g (at c.nodes x) x (g x) (λ y q. rises y x q n) (valid.kinds x k))
      go (put x k e) = rw (e, new_mid c j l g F.within x k) (pair_holds (j + x) (at l x) (pairs-at l j F.pairs x k))

  -- ---- row 6: node i binds v, and so did the node that it was
  record WasBinder (i v : ℕ) : Type 0 where
    place : ℕ
    inside : place < length c.nodes
    other : place ≡ j → ⊥
    became : i ≡ g place
    bound : binds (at c.nodes place) v ≡ true

  was_binder : (i v : ℕ) → i < length new.nodes → binds (at new.nodes i) v ≡ true → WasBinder i v
  was_binder i v h b = go (from i h)
    where
      go : From i → WasBinder i v
      go (old x k n e) =
          let r : binds (renamed g (at c.nodes x)) v ≡ true = rw (e, gone x n) at b in
          record { place = x; inside = k; other = n; became = e; bound = sym (binds-renamed g (at c.nodes x) v) ∙ r }
      go (put x k e) =
          let r : binds (at l x) v ≡ true = rw (e, new_mid c j l g F.within x k) at b in
          absurd (false≢true (sym (pair_plain (at l x) (pairs-at l j F.pairs x k) v) ∙ r))

  -- two binders of one variable were two before
  apart : {y i v : ℕ} → WasBinder y v → WasBinder i v → y < i → ⊥
  unfolding node_at
  apart {y} {i} {v} P Q h =
      let p : P.place < Q.place = elim (dec_lt P.place Q.place) [
        | yes q ↦ q
        | no q ↦ elim (ℕ_discrete Q.place P.place) [
          | yes e ↦ absurd (omega (arith, P.became, Q.became, ap g e))
          | no e ↦ absurd (omega (arith, P.became, Q.became, rises Q.place P.place (omega arith) P.other))
        ]
      ] in
      let x : Triple = at c.nodes Q.place in
      let b : binds x v ≡ true = Q.bound in
      let a : is_binder (node_of x) ≡ true = search and_l in
      let e : x.1 ≡ v = eqb-true x.1 v (search and_r) in
      let s : for_some Q.place (λ z. binds (at c.nodes z) x.1) ≡ true = is_true _ (for_some_mk Q.place _ P.place p (rw (e, P.bound) tt)) in
      let z : ◌≡◌ {A = ℕ} 0 1 = cc (valid.binders Q.place Q.inside) in
      omega arith

  pub new_binders : (i : ℕ) → i < length new.nodes → binder_wrong new i ≡ false
  unfolding node_at
  new_binders i h = is_false _ (λ t.
      let v : ℕ = (at new.nodes i).1 in
      let e : binder_wrong new i ≡ true = is_true _ t in
      let k : is_binder (node_at new i) ≡ true = search and_l in
      let s : for_some i (λ y. binds (at new.nodes y) v) ≡ true = search and_r in
      let (y, q, b) = for_some_use i _ (subst T (sym s) tt) in
      apart (was_binder y v (omega arith) (is_true _ b)) (was_binder i v h (rw (k, eq-eqb v v refl))) q)

  -- ---- the tree of a node of the new case
  new_tree : (i : ℕ) → i < length new.nodes → formula_at (node_at new) i ≡ tree (node_of (at new.nodes i)) (formula_at (node_at new))
  unfolding node_at
  new_tree i h = formula_at_node (node_at new) i (holds-lower i (at new.nodes i) (new_kinds i h))

  -- every lawful relation is kept
  pub kept : {R : Formula → Formula → Type 0} → Lawful R → (i : ℕ) → i < length c.nodes → R (formula_at (node_at c) i) (formula_at (node_at new) (g i))
  unfolding node_at
  kept {R} K =
      let ψ : ℕ → Formula = formula_at (node_at new) in
      rewritten K (node_at c) ψ g (length c.nodes) j (node_lower valid)
      (λ i h n. new_tree (g i) (became_lt i h) ∙ ap (λ t. tree (node_of t) ψ) (gone i n) ∙ tree-renamed g (at c.nodes i) ψ)
      (λ ih. F.law R K ψ
      (λ i p e h. rw e (new_tree (j + i) (omega (arith, F.within, count)) ∙ ap (λ t. tree (node_of t) ψ) (new_mid c j l g F.within i h)))
      (λ i h. subst (λ z. R (formula_at (node_at c) i) (ψ z)) (F.low i h) (ih i h)))
