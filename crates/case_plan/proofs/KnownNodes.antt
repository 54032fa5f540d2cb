-- A node of a plan, once the code knows its kind: the kind's line is the node, and one of another kind is no binder.
use Prim.Native.Nat.{ℕ}
use mathlib.Core.Bool.{Bool}
use mathlib.Core.Path.{◌≡◌, refl, sym, ap, ◌∙◌}
use native.Mathlib.Omega.{arith}
use Rattle.flc.specs.Nodes.{bind}
use Rattle.case_model.specs.Kinds.{kind_at, node_of}
use Rattle.case_reader.specs.declared.parts.Triple as code
use Rattle.case_reader.specs.declared.kinds.Kind.{Kind}
use Rattle.case_reader.specs.declared.kinds.Kind.TheVariants as kind
use Rattle.case_reader.specs.NodeKinds.{line_of}
use Rattle.case_reader.specs.Read.{triple}
use Rattle.case_reader.proofs.Knowing.{by_kind}
use Rattle.case_plan.specs.Plans.{Plan, nodes_of}

module _ (p : Plan) (j : ℕ) {t : code.Triple} (r : triple t ≡ p.nodes j) {k k' : Kind} (e : line_of k ≡ kind_at t.0) (q : k ≡ k') where
  pub known : nodes_of p j ≡ (line_of k').node t.1 t.2
  unfolding nodes_of
  known = sym (by_kind (triple t) (λ n. n) q e ∙ ap node_of r)

pub other_kind : (p : Plan) (j : ℕ) {t : code.Triple} → triple t ≡ p.nodes j → (k : Kind) → line_of k ≡ kind_at t.0
    → ((d : Bool) → k ≡ kind.Binder d → ⊥) → (d : Bool) (v b : ℕ) → nodes_of p j ≡ bind d v b → ⊥
other_kind p j {t} r k e n d v b q = go k (sym (known p j r {k = k} {k' = k} e refl) ∙ q) n
  where
    go : (k : Kind) → (line_of k).node t.1 t.2 ≡ bind d v b → ((d : Bool) → k ≡ kind.Binder d → ⊥) → ⊥
    go (kind.Atom x) z n = let w : ◌≡◌ {A = ℕ} 0 1 = cc in omega arith
    go kind.Variable z n = let w : ◌≡◌ {A = ℕ} 0 1 = cc in omega arith
    go (kind.Two o) z n = let w : ◌≡◌ {A = ℕ} 0 1 = cc in omega arith
    go (kind.Binder d) z n = n d refl
