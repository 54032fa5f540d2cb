-- What the nodes that the root reaches look at, gathered one after the other, is what the rule looks at.
-- Both have the same members: each occurs in a node that is reached.
use Prim.Native.Nat.{ℕ, zero, suc, ◌<◌}
use mathlib.Core.Bool.{Bool, true, false}
use mathlib.Core.Path.{◌≡◌, refl, sym, ap, subst}
use native.Mathlib.Decide.{ℕ_discrete}
use native.Mathlib.Nat.{not-suc-le-zero}
use native.Mathlib.Omega.{arith}
use lib.Dec.{T}
use lib.ListN.{length}
use Rattle.flc.specs.Sets.{has}
use Rattle.flc.specs.Formula.{atom}
use Rattle.flc.specs.Nodes.{Node}
use Rattle.flc.specs.Vocabulary.{vocabulary}
use Rattle.flc.proofs.Tests.{bool_ext, either_use, either_left, either_right}
use Rattle.flc.proofs.Masks.{set_same}
use Rattle.case_model.specs.Case.{Case, node_at}
use Rattle.case_model.specs.Valid.{ValidRule}
use Rattle.case_model.specs.Reach.{ReachSet}
use Rattle.case_model.specs.Looking.{own, looked}
use Rattle.case_model.proofs.Tests.{is_true}
use Rattle.case_model.proofs.Nodes.{reached_low}
use Rattle.case_model.proofs.Looking.{part, has-union, none_has, occurs}
use Rattle.case_reader.specs.NodeKinds.{atom_with}
use Rattle.case_reader.specs.declared.kinds.Atom.{Atom}
use Rattle.vocabulary.specs.Gathering.{with_node, gathered}

-- ---- atoms
pub by_atom : (a : ℕ) {x x' : Atom} → x ≡ x' → vocabulary (atom (atom_with x' a)) ≡ vocabulary (atom (atom_with x a))
by_atom a q = ap (λ x. vocabulary (atom (atom_with x a))) (sym q)

-- ---- all nodes
module _ (N : ℕ → Node) (x : ℕ) (b : Bool) (i : ℕ) where
  -- it occurs in a node of x below k
  abbrev From : ℕ → Type 0
  From k = (j : ℕ) × (j < k) × T (has x j) × T (has (part b (own (N j))) i)

  gathered_use : (k : ℕ) → T (has (part b (gathered N x k)) i) → From k
  unfolding gathered
  gathered_use zero u = absurd (none_has b i u)
  gathered_use (suc k) u = go (gathered_use k) (has x k) refl u
    where
      go : (T (has (part b (gathered N x k)) i) → From k) → (c : Bool) → has x k ≡ c → T (has (part b (with_node (gathered N x k) c (N k))) i) → From (suc k)
      go before true e u =
          either_use _ _ (λ v. let (j, l, h, w) = before v in (j, omega arith, h, w)) (λ v. (k, omega arith, rw e tt, v))
          (subst T (has-union b (gathered N x k) (own (N k)) i) u)
      go before false e u = let (j, l, h, w) = before u in (j, omega arith, h, w)

  gathered_mk : (k : ℕ) → From k → T (has (part b (gathered N x k)) i)
  unfolding gathered
  gathered_mk zero (j, l, h, u) = absurd (not-suc-le-zero l)
  gathered_mk (suc k) (j, l, h, u) = elim (ℕ_discrete j k) [
    | yes e ↦ rw (is_true (has x k) (subst (λ j. T (has x j)) e h), has-union b (gathered N x k) (own (N k)) i)
        (either_right _ _ (subst (λ j. T (has (part b (own (N j))) i)) e u))
    | no n ↦ more (gathered_mk k (j, omega arith, h, u))
  ]
    where
      more : T (has (part b (gathered N x k)) i) → T (has (part b (with_node (gathered N x k) (has x k) (N k))) i)
      more u = elim (has x k) as (λ c. T (has (part b (with_node (gathered N x k) c (N k))) i)) [
        | true ↦ rw (has-union b (gathered N x k) (own (N k)) i) (either_left _ _ u)
        | false ↦ u
      ]

-- ---- the rule
module _ {c : Case} (valid : ValidRule c) {x : ℕ} (S : ReachSet c x) where
  same : (b : Bool) → part b (gathered (node_at c) x (length c.nodes)) ≡ part b (looked c)
  same b = set_same _ _ (λ i. bool_ext _ _
      (λ u. let (j, l, h, w) = gathered_use (node_at c) x b i (length c.nodes) u in
      (occurs valid b i).1 (j, (S.is j (omega (arith, valid.most))).0 h, w))
      (λ u. let (j, r, w) = (occurs valid b i).0 u in
      let low : j < length c.nodes = omega (arith, reached_low valid j r, valid.root) in
      gathered_mk (node_at c) x b i (length c.nodes) (j, low, (S.is j (omega (arith, low, valid.most))).1 r, w)))

  pub gathered-looked : gathered (node_at c) x (length c.nodes) ≡ looked c
  gathered-looked = λ z. record { props = same true z; acts = same false z }
