-- The binders of the first nodes, each at its variable: one node more is looked at.
-- A store changes one word; no other node binds the variable, so what was noted stays.
use Prim.Native.Nat.{ℕ, ◌+◌, ◌<◌}
use mathlib.Core.Bool.{true, false}
use mathlib.Core.List.{List}
use mathlib.Core.Path.{◌≡◌, sym, ap, ◌∙◌, subst}
use native.Mathlib.Decide.{ℕ_discrete}
use native.Mathlib.Omega.{arith}
use lib.ListN.{get_or, set, length-set}
use lib.Seq.{get_or-set_same, get_or-set_other}
use Rattle.flc.specs.Nodes.{Node, bind}
use Rattle.case_model.specs.Limits.{variables}
use Rattle.case_model.specs.Kinds.{Triple, node_of, is_binder}
use Rattle.case_model.proofs.KindLines.{binder_node}
use Rattle.case_plan.specs.Parts.{Binders, BindersOf}

-- where the nodes are the same, so is what holds of their binders
pub binders_same : {N M : ℕ → Node} {k : ℕ} → ((j : ℕ) → j < k → N j ≡ M j) → Binders M k → Binders N k
binders_same s B = record {
  most = B.most;
  low = λ j h e. B.low j h (sym (s j h) ∙ e);
  one = λ i j h k p q. B.one i j h k (sym (s i h) ∙ p) (sym (s j k) ∙ q);
}

pub binders_of_same : {N M : ℕ → Node} {k : ℕ} {homes : List ℕ} → ((j : ℕ) → j < k → N j ≡ M j) → BindersOf N k homes → BindersOf M k homes
binders_of_same s H = record { long = H.long; is = λ j h e. H.is j h (s j h ∙ e) }

module _ {N : ℕ → Node} {k j : ℕ} {homes : List ℕ} (H : BindersOf N j homes) (B : Binders N k) (l : j < k) (t : Triple) (e : node_of t ≡ N j) where
  pub housed_same : is_binder (node_of t) ≡ false → BindersOf N (j + 1) homes
  housed_same n = record {
    long = H.long;
    is = λ i {d} {x} {b} h q. elim (ℕ_discrete i j) [
      | yes z ↦
          let u : true ≡ false = ap is_binder (sym (subst (λ i. N i ≡ bind d x b) z q) ∙ sym e) ∙ n in
          absurd (let o : ◌≡◌ {A = ℕ} 0 1 = cc in omega arith)
      | no z ↦ H.is i (omega arith) q
    ];
  }

  module _ (n : is_binder (node_of t) ≡ true) where
    pub binds_low : t.1 < variables
    binds_low = let (d, m) = binder_node t n in B.low j l (sym e ∙ m)

    pub housed_more : BindersOf N (j + 1) (set homes t.1 j)
    housed_more =
        let (d, m) = binder_node t n in
        record {
          long = length-set homes t.1 j ∙ H.long;
          is = λ i {d = d'} {x} {b} h q. elim (ℕ_discrete i j) [
            | yes z ↦
                let f : bind d t.1 t.2 ≡ bind d' x b = sym m ∙ e ∙ subst (λ i. N i ≡ bind d' x b) z q in
                let g : x ≡ t.1 = cc in
                ap (λ x. get_or (set homes t.1 j) x 0) g ∙ get_or-set_same homes t.1 j 0 (omega (arith, H.long, binds_low)) ∙ sym z
            | no z ↦
                get_or-set_other homes t.1 x j 0
                (λ o. let g : x ≡ t.1 = omega arith in z (B.one i j (omega arith) l (subst (λ x. N i ≡ bind d' x b) g q) (sym e ∙ m)))
                ∙ H.is i (omega arith) q
          ];
        }
