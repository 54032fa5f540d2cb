-- The free variables of every node, as masks in a table that is filled node by node; and whether the root has none.
-- By induction over the nodes filled: each entry is the mask of the tree that `lower` has there, empty for a node not yet filled.
use Prim.Native.Nat.{ℕ, zero, suc, ◌-◌, ◌^◌, ◌≤◌, ◌<◌}
use mathlib.Core.Bool.{Bool, false, not, and_comm}
use mathlib.Core.List.{List}
use mathlib.Core.Path.{◌≡◌, refl, sym, ap, ap₂, subst, ◌∙◌}
use native.Mathlib.Decide.{dec_lt, ℕ_discrete}
use native.Mathlib.Omega.{arith}
use borrow.Author.Tests.{eq-eqb, ne_eqb, lt-ltb, le-ltb}
use lib.Bits.{bit_or, or_lt, and_lt}
use lib.Dec.{T, eqb, eqb→eq, T_not}
use lib.ListN.{length, get_or, set, length-set, length-replicate, get_or-eq_default}
use lib.Pow.{pow-lt}
use lib.Seq.{get_or-set_same, get_or-set_other}
use Rattle.flc.specs.Sets.{both, either, for_all, has, set_of}
use Rattle.flc.specs.Formula.{Formula, Op, atom, bottom, var, op, fix, free}
use Rattle.flc.specs.Nodes.{tree, lower, formula_at}
use Rattle.flc.proofs.Tests.{bool_ext, both_left, both_right, for_all_use, for_all_mk}
use Rattle.flc.proofs.Masks.{has_empty, has-set_of, set_of_lt, set_of_ext, set_of-has, set_ext, has_or, has_and}
use Rattle.flc.proofs.Unfolding.{lower-at}
use Rattle.case_model.specs.Bytes.{list_of}
use Rattle.case_model.specs.Case.{Case, at, node_at, rule}
use Rattle.case_model.specs.Kinds.{Triple, Kind, kinds, kind_at, node_of}
use Rattle.case_model.specs.Rows.{root_closed}
use Rattle.case_model.specs.Limits.{variables}
use Rattle.case_model.proofs.Lists.{list_of-get_or, list_of_ext, zeros}
use Rattle.case_model.proofs.Tests.{is_false}
use Rattle.case_model.proofs.KindLines.{Line, constant, variable, pair, binder, line}
use Rattle.case_reader.specs.NodeSets.{single, without, mask_of, masks}
use Rattle.case_reader.proofs.Readers.{peel}

-- ---- masks of trees
-- x is the mask of the tree p
record Mask (x : ℕ) (p : Formula) : Type 0 where
  small : x < 65536
  bits : (v : ℕ) → v < 16 → has x v ≡ free v p

-- the mask of a tree without free variables
empty_mask : (p : Formula) → ((v : ℕ) → v < 16 → free v p ≡ false) → Mask 0 p
empty_mask p e = record { small = omega arith; bits = λ v l. has_empty v ∙ sym (e v l) }

-- 2 ^ a has the one bit a below bit 16, and 65535 - 2 ^ a all the others: computed for each a
powers : T (for_all 16 (λ a. both (eqb (2 ^ a) (set_of 16 (λ v. eqb v a))) (eqb (65535 - 2 ^ a) (set_of 16 (λ v. not (eqb v a))))))
unfolding for_all both set_of
powers = tt

module _ (a : ℕ) (h : a < 16) where
  row : T (both (eqb (2 ^ a) (set_of 16 (λ v. eqb v a))) (eqb (65535 - 2 ^ a) (set_of 16 (λ v. not (eqb v a)))))
  row = for_all_use 16 _ powers a h

  has_one : (v : ℕ) → v < 16 → has (2 ^ a) v ≡ eqb v a
  has_one v l = ap (λ x. has x v) (eqb→eq _ _ (both_left _ _ row)) ∙ has-set_of 16 _ v l

  has_others : (v : ℕ) → v < 16 → has (65535 - 2 ^ a) v ≡ not (eqb v a)
  has_others v l = ap (λ x. has x v) (eqb→eq _ _ (both_right _ _ row)) ∙ has-set_of 16 _ v l

-- the three kinds of tree that have free variables
single_mask : (a : ℕ) → Mask (single a) (var a)
unfolding free
single_mask a = elim (dec_lt a 16) [
  | yes h ↦ rw (lt-ltb a 16 h) (record { small = pow-lt {i = a} {j = 16} h; bits = has_one a h })
  | no h ↦ rw (le-ltb a 16 (omega arith)) (empty_mask (var a) (λ v l. ne_eqb v a (λ e. omega arith)))
]

or_mask : {x y : ℕ} {p q : Formula} (o : Op) → Mask x p → Mask y q → Mask (bit_or x y) (op o p q)
unfolding free
or_mask {x} {y} o m n = record {
  small = or_lt 16 x y m.small n.small;
  bits = λ v l. has_or x y v ∙ ap₂ either (m.bits v l) (n.bits v l);
}

without_mask : {x : ℕ} {p : Formula} (d : Bool) (a : ℕ) → Mask x p → Mask (without x a) (fix d a p)
unfolding free both
without_mask {x} {p} d a m = elim (dec_lt a 16) [
  | yes h ↦ rw (lt-ltb a 16 h) (record {
    small = and_lt 16 x (65535 - 2 ^ a) m.small (omega arith);
    bits = λ v l. has_and x (65535 - 2 ^ a) v ∙ ap₂ both (m.bits v l) (has_others a h v l) ∙ and_comm (free v p) (not (eqb v a));
  })
  | no h ↦ rw (le-ltb a 16 (omega arith)) (record {
    small = m.small;
    bits = λ v l. rw (ne_eqb v a (λ e. omega arith)) (m.bits v l);
  })
]

-- a node's mask, from masks of the trees that it is made of
node_mask : (t : List ℕ) (φ : ℕ → Formula) → ((i : ℕ) → Mask (get_or t i 0) (φ i)) → (x : Triple) → Mask (mask_of t (node_of x)) (tree (node_of x) φ)
unfolding free
node_mask t φ m x = go (kind_at x.0) (line x.0)
  where
    go : (κ : Kind) → Line κ → Mask (mask_of t (κ.node x.1 x.2)) (tree (κ.node x.1 x.2) φ)
    go _ (constant f y n) = empty_mask (atom (f x.1)) (λ v l. refl)
    go _ variable = single_mask x.1
    go _ (pair o) = or_mask o (m x.1) (m x.2)
    go _ (binder d) = without_mask d x.1 (m x.2)

-- ---- the table's entries
module _ (c : Case) where
  -- one node more
  pub masks_more : (j : ℕ) → (j ≡ 0 → ⊥) → {t : List ℕ} {x : Triple} {y : ℕ} → t ≡ masks (node_at c) (j - 1) → x ≡ at c.nodes (j - 1)
      → y ≡ mask_of t (node_of x) → set t (j - 1) y ≡ masks (node_at c) j
  unfolding node_at
  masks_more j h {t} e q r =
      ap (set t (j - 1)) (r ∙ ap (λ x. mask_of t (node_of x)) q) ∙ ap (λ t. set t (j - 1) (mask_of t (node_at c (j - 1)))) e
      ∙ sym (peel (masks (node_at c)) j h)

  pub length-masks : (j : ℕ) → length (masks (node_at c) j) ≡ 64
  length-masks zero = length-replicate {A = ℕ} 64 0
  length-masks (suc j) = length-set (masks (node_at c) j) j _ ∙ length-masks j

  -- every entry of the table after j nodes, also past the nodes filled
  entry : (j : ℕ) → j ≤ 64 → (i : ℕ) → Mask (get_or (masks (node_at c) j) i 0) (lower (node_at c) j i)
  unfolding lower node_at free
  entry zero h i = rw (zeros 64 i) (empty_mask (atom bottom) (λ v l. refl))
  entry (suc j) h i = elim (ℕ_discrete i j) [
    | yes e ↦ rw (eq-eqb i j e, e, get_or-set_same (masks (node_at c) j) j (mask_of (masks (node_at c) j) (node_at c j)) 0 (rw (length-masks j) h))
        (node_mask (masks (node_at c) j) (lower (node_at c) j) (entry j (omega arith)) (at c.nodes j))
    | no n ↦ rw (ne_eqb i j n, get_or-set_other (masks (node_at c) j) j i (mask_of (masks (node_at c) j) (node_at c j)) 0 n) (entry j (omega arith) i)
  ]

  -- nothing is filled in from node j on
  unfilled : (j i : ℕ) → j ≤ i → get_or (masks (node_at c) j) i 0 ≡ 0
  unfilled zero i h = zeros 64 i
  unfilled (suc j) i h = get_or-set_other (masks (node_at c) j) j i _ 0 (λ e. omega arith) ∙ unfilled j i (omega arith)

  -- a node past the end reads as tt
  past : (i v : ℕ) → length c.nodes ≤ i → free v (formula_at (node_at c) i) ≡ false
  unfolding formula_at node_at kind_at kinds free
  past i v h = rw (get_or-eq_default c.nodes (0, 0, 0) h)

  -- all nodes that have a place in the table are filled in: it has the free variables of each node as a set
  pub masks_sets : (j : ℕ) → j ≤ 64 → ((i : ℕ) → j ≤ i → i < 64 → length c.nodes ≤ i)
      → masks (node_at c) j ≡ list_of 64 (λ i. set_of variables (λ v. free v (formula_at (node_at c) i)))
  masks_sets j h end =
      sym (list_of-get_or (masks (node_at c) j) 0) ∙ ap (λ n. list_of n (λ i. get_or (masks (node_at c) j) i 0)) (length-masks j) ∙ list_of_ext 64 _ _ is
    where
      mask : (i : ℕ) → i < 64 → Mask (get_or (masks (node_at c) j) i 0) (formula_at (node_at c) i)
      mask i l = elim (dec_lt i j) [
        | yes k ↦ subst (Mask (get_or (masks (node_at c) j) i 0)) (lower-at (node_at c) j i k) (entry j h i)
        | no k ↦ rw (unfilled j i (omega arith)) (empty_mask (formula_at (node_at c) i) (λ v _. past i v (end i (omega arith) l)))
      ]

      is : (i : ℕ) → i < 64 → get_or (masks (node_at c) j) i 0 ≡ set_of variables (λ v. free v (formula_at (node_at c) i))
      is i l = let m = mask i l in sym (set_of-has 16 _ m.small) ∙ set_of_ext 16 _ _ m.bits

-- the root's set is empty just if nothing is free in the root
pub closed_empty : (c : Case) → eqb (set_of variables (λ v. free v (rule c))) 0 ≡ root_closed c
unfolding root_closed
closed_empty c =
    let p : ℕ → Bool = λ v. free v (rule c) in
    let x : ℕ = set_of variables p in
    bool_ext (eqb x 0) (root_closed c)
    (λ e. for_all_mk variables _ (λ v l. rw (← has-set_of variables p v l, eqb→eq x 0 e, has_empty v) tt))
    (λ t. rw (set_ext 16 x 0 (set_of_lt 16 p) (omega arith)
    (λ v l. has-set_of 16 p v l ∙ is_false _ (T_not (p v) (for_all_use variables _ t v l)) ∙ sym (has_empty v))) tt)
