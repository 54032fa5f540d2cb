-- The set of a node, by its kind and by its operator: what was stored for a node of the kind that was found is what is made for node j.
use Prim.Native.Nat.{ℕ, ◌+◌, ◌*◌, ◌≤◌, ◌<◌}
use mathlib.Core.Bool.{Bool, true, false}
use mathlib.Core.List.{List}
use mathlib.Core.Path.{◌≡◌, refl, sym, ap, ◌∙◌, subst}
use native.Mathlib.Omega.{arith}
use borrow.Author.Tests.{ltb-true}
use lib.Bits.{bit_or, bit_and}
use lib.ListN.{length}
use Rattle.flc.specs.Sets.{set_of}
use Rattle.flc.specs.Formula as logic
use Rattle.flc.specs.Formula.{Op, top, bottom, mean_atom}
use Rattle.flc.specs.Nodes.{Node, two}
use Rattle.flc.proofs.Masks.{or_set_of, and_set_of}
use Rattle.case_model.specs.Limits.{variables}
use Rattle.case_model.specs.Kinds as model
use Rattle.case_model.specs.Kinds.{kind_at, node_of, node_holds, fits}
use Rattle.case_model.specs.Case.{Case, read, table}
use Rattle.case_model.proofs.Tests.{and_l}
use Rattle.case_model.proofs.Nodes.{Fits, fits-constant, fits_variable, fits_pair, fits_binder, holds_fits}
use Rattle.case_reader.specs.Read.{triple}
use Rattle.case_reader.specs.NodeKinds.{line_of, operand_of, atom_with, op_of}
use Rattle.case_reader.specs.declared.parts.Triple.{Triple}
use Rattle.case_reader.specs.declared.kinds.Atom.{Atom}
use Rattle.case_reader.specs.declared.kinds.Atom.TheVariants as atoms
use Rattle.case_reader.specs.declared.kinds.Operator.{Operator}
use Rattle.case_reader.specs.declared.kinds.Operator.TheVariants as operators
use Rattle.case_reader.specs.declared.kinds.Kind.{Kind}
use Rattle.case_reader.specs.declared.kinds.Kind.TheVariants as kind
use Rattle.case_reader.proofs.Knowing.{operands, atom_operand}
use Rattle.case_plan.proofs.KnownNodes.{known}
use Rattle.case_plan.specs.Plans.{Plan, nodes_of}
use Rattle.regular_model.specs.Values.{constant_of}
use Rattle.regular_model.specs.Blocks.{made, modality_at}
use Rattle.regular_model.specs.HeldSets.{blocks, Stored}
use Rattle.regular_sets.specs.Views.{frame, Fillable}

-- ---- the same set by another name
pub stored_as : {w v : List ℕ} {c x y : ℕ} → Stored w v c x → x ≡ y → Stored w v c y
stored_as {w} {v} {c} S e = subst (Stored w v c) e S

-- ---- atoms
-- all states, or none, as many as the table has
pub full_set : (c : Case) {n : ℕ} → n ≡ length c.labels → set_of n (λ _. true) ≡ mean_atom (table c) top 0
unfolding mean_atom table
full_set c e = ap (λ n. set_of n (λ _. true)) e

pub empty_set : (c : Case) {n : ℕ} → n ≡ length c.labels → set_of n (λ _. false) ≡ mean_atom (table c) bottom 0
unfolding mean_atom table
empty_set c e = ap (λ n. set_of n (λ _. false)) e

-- an atom that has no set of its own has that of ff
pub other_atom : (x : Atom) (a : ℕ) → (x ≡ atoms.Top → ⊥) → (x ≡ atoms.Proposition → ⊥) → (x ≡ atoms.Complement → ⊥)
    → constant_of (atom_with x a) ≡ bottom
other_atom atoms.Top a t p n = absurd (t refl)
other_atom atoms.Bottom a t p n = refl
other_atom atoms.Proposition a t p n = absurd (p refl)
other_atom atoms.Complement a t p n = absurd (n refl)
other_atom atoms.Tau a t p n = refl
other_atom (atoms.Action d) a t p n = refl
other_atom (atoms.Group d) a t p n = refl

-- what was stored for the atom that was found
pub atom_stored : (c : Case) (a : ℕ) {w v : List ℕ} {base : ℕ} {x x' : Atom} → x ≡ x'
    → Stored w v base (mean_atom (table c) (constant_of (atom_with x' a)) 0) → Stored w v base (mean_atom (table c) (constant_of (atom_with x a)) 0)
atom_stored c a q S = stored_as S (ap (λ x. mean_atom (table c) (constant_of (atom_with x a)) 0) (sym q))

-- ---- node j
-- at its block: the set that is made for a node x
abbrev pub NodeStored : List ℕ → Plan → List ℕ → ℕ → Node → List ℕ → Type 0
NodeStored f p w j x v = Stored w v (64 * j) (made (frame (read f) p) x (blocks w))

module _ {f : List ℕ} {p : Plan} {w : List ℕ} {j : ℕ} (F : Fillable f p w j) where
  -- where its block lies
  pub here : 64 * j + 32 ≤ length w
  here = omega (arith, F.there, F.room)

  -- what was stored for a node of the same shape
  same_node : {x : Node} {v : List ℕ} → nodes_of p j ≡ x → NodeStored f p w j x v → NodeStored f p w j (nodes_of p j) v
  same_node q S = stored_as S (ap (λ n. made (frame (read f) p) n (blocks w)) (sym q))

  module _ {t : Triple} (r : triple t ≡ p.nodes j) where
    holds : node_holds j (triple t) ≡ true
    holds = subst (λ x. node_holds j x ≡ true) (sym r) (F.rule.kinds j F.there)

    -- ---- of a kind
    module _ {k : Kind} (e : line_of k ≡ kind_at t.0) where
      pub kind_done : {k' : Kind} {v : List ℕ} → k ≡ k' → NodeStored f p w j ((line_of k').node t.1 t.2) v → NodeStored f p w j (nodes_of p j) v
      kind_done q = same_node (known p j r e q)

      pub operand_fits : {x : Atom} → k ≡ kind.Atom x → (i : ℕ) → fits (operand_of x) i t.1 ≡ true
      operand_fits = atom_operand j (triple t) e holds

      pub variable_low : k ≡ kind.Variable → (t.1 < variables) × (j < p.homes t.1) × (p.homes t.1 < p.count)
      variable_low q =
          let (h, m) = F.bound t.1 (known p j r e q) in
          (ltb-true t.1 variables (and_l _ _ (operands j (triple t) e holds q)), h, m)

      pub operator_is : {o : Operator} → k ≡ kind.Two o → nodes_of p j ≡ two (op_of o) (p.nodes j).1 (p.nodes j).2
      operator_is {o} q = known p j r e q ∙ ap (λ (t : model.Triple). two (op_of o) t.1 t.2) r

      pub no_binder : {d : Bool} → k ≡ kind.Binder d → ⊥
      no_binder {d} q = F.plain d t.1 t.2 (known p j r e q)

    -- ---- two nodes under an operator
    module _ (o : Operator) (q : nodes_of p j ≡ two (op_of o) (p.nodes j).1 (p.nodes j).2) where
      operands_are : nodes_of p j ≡ two (op_of o) t.1 t.2
      operands_are = q ∙ ap (λ (t : model.Triple). two (op_of o) t.1 t.2) (sym r)

      -- both lie below
      pub two_low : (t.1 < j) × (t.2 < j)
      unfolding nodes_of
      two_low = go (nodes_of p j) (holds_fits j (p.nodes j) (F.rule.kinds j F.there)) operands_are
        where
          go : {o : Op} {a b : ℕ} (n : Node) → Fits j n → n ≡ two o a b → (a < j) × (b < j)
          go _ (fits-constant x) q = absurd (let z : ◌≡◌ {A = ℕ} 0 1 = cc in omega arith)
          go _ (fits_variable v l) q = absurd (let z : ◌≡◌ {A = ℕ} 0 1 = cc in omega arith)
          go {a = a} {b = b} _ (fits_pair f g h l m) q = let y : g ≡ a = cc in let z : h ≡ b = cc in (omega arith, omega arith)
          go _ (fits_binder d v g l m) q = absurd (let z : ◌≡◌ {A = ℕ} 0 1 = cc in omega arith)

      module _ {v : List ℕ} where
        operator_done : {o' : Operator} → o ≡ o' → NodeStored f p w j (two (op_of o') t.1 t.2) v → NodeStored f p w j (nodes_of p j) v
        operator_done e = same_node (operands_are ∙ ap (λ o. two (op_of o) t.1 t.2) e)

        pub or_done : o ≡ operators.Or → Stored w v (64 * j) (bit_or (blocks w t.1) (blocks w t.2)) → NodeStored f p w j (nodes_of p j) v
        or_done e S = operator_done e (stored_as S (or_set_of (table (read f)).n _ _ (F.sets t.1) (F.sets t.2)))

        pub and_done : o ≡ operators.And → Stored w v (64 * j) (bit_and (blocks w t.1) (blocks w t.2)) → NodeStored f p w j (nodes_of p j) v
        and_done e S = operator_done e (stored_as S (and_set_of (table (read f)).n _ _ (F.sets t.1) (F.sets t.2)))

        -- the modality m is the left node's
        pub chop_done : {left : Triple} {m : logic.Atom} → o ≡ operators.Chop → triple left ≡ p.nodes t.1
            → m ≡ modality_at (node_of (triple left)) → Stored w v (64 * j) (mean_atom (table (read f)) m (blocks w t.2))
            → NodeStored f p w j (nodes_of p j) v
        unfolding nodes_of
        chop_done e l m S =
            operator_done e (stored_as S (ap (λ m. mean_atom (table (read f)) m (blocks w t.2)) (m ∙ ap (λ t. modality_at (node_of t)) l)))
