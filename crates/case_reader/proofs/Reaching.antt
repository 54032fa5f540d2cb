-- The set of the nodes that the root of a valid rule reaches is what spreading from the root makes.
-- Spreading goes from higher nodes to lower ones, so that a node is in the set or not once and for all when its turn comes.
use Prim.Native.Nat.{ℕ, zero, suc, ◌^◌, ◌≤◌, ◌<◌}
use mathlib.Core.Bool.{true, false, cond}
use mathlib.Core.Logic.{◌⊎◌, inl, inr, ⊎_elim}
use mathlib.Core.Path.{◌≡◌, refl, sym, subst}
use native.Mathlib.Decide.{ℕ_discrete}
use native.Mathlib.Nat.{not-suc-le-zero}
use native.Mathlib.Omega.{arith}
use borrow.Author.Tests.{eq-eqb, lt-ltb}
use lib.Bits.{bit_or}
use lib.Dec.{T, ltb, eqb→eq}
use Rattle.flc.specs.Sets.{has}
use Rattle.flc.specs.Nodes.{Node, leaf, two, bind, Names}
use Rattle.flc.proofs.Tests.{either_left, either_right, either_use}
use Rattle.flc.proofs.Masks.{has_or, has_empty, has-single}
use Rattle.flc.proofs.Unfolding.{Lower}
use Rattle.case_model.specs.Limits.{most_nodes}
use Rattle.case_model.specs.Case.{Case, node_at}
use Rattle.case_model.specs.Valid.{ValidRule}
use Rattle.case_model.specs.Reach.{Reached, the_root, named, ReachSet}
use Rattle.case_model.proofs.Nodes.{all_lower, reached_low}
use Rattle.case_reader.specs.NodeSets.{with_node, with_all, with_named, spread}

-- ---- one node more
module _ (x i : ℕ) where
  -- it has node i, and what it had
  with_in : i < most_nodes → T (has (with_node x i) i)
  with_in h = rw (lt-ltb i most_nodes h, has_or x (2 ^ i) i) (either_right _ _ (rw (has-single i i, eq-eqb i i refl) tt))

  with_keeps : (s : ℕ) → T (has x s) → T (has (with_node x i) s)
  with_keeps s t = elim (ltb i most_nodes) as (λ b. T (has (cond b (bit_or x (2 ^ i)) x) s)) [
    | true ↦ rw (has_or x (2 ^ i) s) (either_left _ _ t)
    | false ↦ t
  ]

  -- and nothing else
  with_use : (s : ℕ) → T (has (with_node x i) s) → T (has x s) ⊎ (s ≡ i)
  with_use s = elim (ltb i most_nodes) as (λ b. T (has (cond b (bit_or x (2 ^ i)) x) s) → T (has x s) ⊎ (s ≡ i)) [
    | true ↦ λ t. either_use _ _ (λ u. inl u) (λ u. inr (sym (eqb→eq i s (subst T (has-single i s) u)))) (subst T (has_or x (2 ^ i) s) t)
    | false ↦ λ t. inl t
  ]

-- ---- the nodes that a node names
all_keeps : (x : ℕ) (n : Node) (s : ℕ) → T (has x s) → T (has (with_all x n) s)
all_keeps x (leaf p) s t = t
all_keeps x (two o a b) s t = with_keeps (with_node x a) b s (with_keeps x a s t)
all_keeps x (bind d v b) s t = with_keeps x b s t

all_in : (x : ℕ) (n : Node) (s : ℕ) → s < most_nodes → Names n s → T (has (with_all x n) s)
all_in x (leaf p) s h e = absurd e
all_in x (two o a b) s h (inl e) = with_keeps (with_node x a) b s (subst (λ i. T (has (with_node x i) s)) e (with_in x s h))
all_in x (two o a b) s h (inr e) = subst (λ i. T (has (with_node (with_node x a) i) s)) e (with_in (with_node x a) s h)
all_in x (bind d v b) s h e = subst (λ i. T (has (with_node x i) s)) e (with_in x s h)

all_use : (x : ℕ) (n : Node) (s : ℕ) → T (has (with_all x n) s) → T (has x s) ⊎ Names n s
all_use x (leaf p) s t = inl t
all_use x (two o a b) s t = ⊎_elim (λ u. ⊎_elim (λ w. inl w) (λ e. inr (inl e)) (with_use x a s u)) (λ e. inr (inr e)) (with_use (with_node x a) b s t)
all_use x (bind d v b) s t = ⊎_elim (λ u. inl u) (λ e. inr e) (with_use x b s t)

-- ---- one node's turn
module _ (x : ℕ) (n : Node) (j : ℕ) where
  turn_keeps : (s : ℕ) → T (has x s) → T (has (with_named x n j) s)
  turn_keeps s t = elim (has x j) as (λ b. T (has (cond b (with_all x n) x) s)) [ true ↦ all_keeps x n s t | false ↦ t ]

  turn_in : T (has x j) → (s : ℕ) → s < most_nodes → Names n s → T (has (with_named x n j) s)
  turn_in = elim (has x j) as (λ b. T b → (s : ℕ) → s < most_nodes → Names n s → T (has (cond b (with_all x n) x) s)) [
    | true ↦ λ t s h e. all_in x n s h e
    | false ↦ λ t. absurd t
  ]

  turn_use : (s : ℕ) → T (has (with_named x n j) s) → T (has x s) ⊎ (T (has x j) × Names n s)
  turn_use s = elim (has x j) as (λ b. T (has (cond b (with_all x n) x) s) → T (has x s) ⊎ (T b × Names n s)) [
    | true ↦ λ t. ⊎_elim (λ u. inl u) (λ e. inr (tt, e)) (all_use x n s t)
    | false ↦ λ t. inl t
  ]

-- ---- all turns
module _ (N : ℕ → Node) where
  -- the set after node j's turn
  abbrev turned : ℕ → ℕ → ℕ
  turned x j = with_named x (N j) j

  spread_keeps : (k x s : ℕ) → T (has x s) → T (has (spread N k x) s)
  unfolding spread
  spread_keeps zero x s t = t
  spread_keeps (suc j) x s t = spread_keeps j (turned x j) s (turn_keeps x (N j) j s t)

  -- only reached nodes join: what holds of the set's nodes, and passes on to the nodes that a node names, holds of all that join
  module _ (P : ℕ → Type 0) (step : (i s : ℕ) → P i → Names (N i) s → P s) where
    spread_sound : (k x : ℕ) → ((s : ℕ) → T (has x s) → P s) → (s : ℕ) → T (has (spread N k x) s) → P s
    unfolding spread
    spread_sound zero x all s t = all s t
    spread_sound (suc j) x all s t = spread_sound j (turned x j) next s t
      where
        next : (s : ℕ) → T (has (turned x j) s) → P s
        next s t = ⊎_elim (all s) (λ (u, e). step j s (all j u) e) (turn_use x (N j) j s t)

  module _ (low : (j : ℕ) → Lower N j) where
    -- a node's turn is past: it is in the set only if it was
    spread_high : (k x i : ℕ) → k ≤ i → T (has (spread N k x) i) → T (has x i)
    unfolding spread
    spread_high zero x i h t = t
    spread_high (suc j) x i h t =
        let past : T (has (turned x j) i) = spread_high j (turned x j) i (omega arith) t in
        ⊎_elim (λ u. u) (λ (u, e). absurd (omega (arith, low j i e))) (turn_use x (N j) j i past)

    -- what a node in the set names is in the set
    spread_closed : (k x i : ℕ) → i < k → T (has (spread N k x) i) → (s : ℕ) → s < most_nodes → Names (N i) s → T (has (spread N k x) s)
    unfolding spread
    spread_closed zero x i h t s l e = absurd (not-suc-le-zero h)
    spread_closed (suc j) x i h t s l e = elim (ℕ_discrete i j) [
      | no q ↦ spread_closed j (turned x j) i (omega arith) t s l e
      | yes q ↦
          let end : T (has (spread N j (turned x j)) j) = subst (λ i. T (has (spread N j (turned x j)) i)) q t in
          let past : T (has (turned x j) j) = spread_high j (turned x j) j (omega arith) end in
          let before : T (has x j) = ⊎_elim (λ u. u) (λ (u, e). u) (turn_use x (N j) j j past) in
          spread_keeps j (turned x j) s (turn_in x (N j) j before s l (subst (λ i. Names (N i) s) q e))
    ]

-- ---- the rule's nodes
module _ {c : Case} (valid : ValidRule c) where
  -- from the root
  abbrev start : ℕ
  start = with_node 0 c.root

  -- nodes above it have no turn
  abbrev turns : ℕ
  turns = suc c.root

  sound : (j : ℕ) → T (has (spread (node_at c) turns start) j) → Reached (node_at c) c.root j
  sound = spread_sound (node_at c) (Reached (node_at c) c.root) (λ i s r e. named r e) turns start
      (λ s t. ⊎_elim (λ u. absurd (subst T (has_empty s) u)) (λ e. subst (Reached (node_at c) c.root) (sym e) the_root) (with_use 0 c.root s t))

  pub root_place : c.root < most_nodes
  root_place = omega (arith, valid.root, valid.most)

  place : (j : ℕ) → Reached (node_at c) c.root j → j < most_nodes
  place j r = omega (arith, reached_low valid j r, root_place)

  complete : (j : ℕ) → Reached (node_at c) c.root j → T (has (spread (node_at c) turns start) j)
  complete _ the_root = spread_keeps (node_at c) turns start c.root (with_in 0 c.root root_place)
  complete j (named {i} r e) =
      let low : i < turns = omega (arith, reached_low valid i r) in
      spread_closed (node_at c) (all_lower valid) turns start i low (complete i r) j (place j (named r e)) e

  pub reach_set : ReachSet c (spread (node_at c) (suc c.root) (with_node 0 c.root))
  reach_set = record { is = λ j h. (sound j, complete j) }
