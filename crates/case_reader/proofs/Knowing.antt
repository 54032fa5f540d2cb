-- What a triple is by the number that was compared, a line of the table or past its end; and by the kind that was found, with the ranges of its operands.
-- Equations of the table's lines.
use Prim.Native.Nat.{ℕ, ◌*◌, ◌%◌, ◌^◌, ◌≤◌, ◌<◌}
use mathlib.Core.Bool.{true, ◌&&◌}
use mathlib.Core.Path.{◌≡◌, refl, sym, ap, ◌∙◌, subst}
use native.Mathlib.Nat.{one-mul, mod-eq_of_lt}
use native.Mathlib.Omega.{arith}
use borrow.Author.Tests.{ltb-true}
use lib.Dec.{ltb}
use lib.ListN.{length, get_or-eq_default}
use lib.Pow.{pow-lt}
use Rattle.flc.specs.Formula.{atom, bottom}
use Rattle.flc.specs.Nodes.{Node}
use Rattle.case_model.specs.Kinds as table
use Rattle.case_model.specs.Kinds.{Triple, Operand, unused, under, fits, leaf_kind, kinds, kind_at, node_of, node_holds}
use Rattle.case_model.proofs.Tests.{and_l, and_r}
use Rattle.case_reader.specs.NodeKinds.{operand_of, line_of, Decodes}
use Rattle.case_reader.specs.declared.kinds.Atom.{Atom}
use Rattle.case_reader.specs.declared.kinds.Atom.TheVariants as atoms
use Rattle.case_reader.specs.declared.kinds.Kind.{Kind}
use Rattle.case_reader.specs.declared.kinds.Kind.TheVariants as kind
use Rattle.case_reader.specs.declared.kinds.UnknownKind.{UnknownKind}
use Rattle.std.specs.Prelude.{Result, Ok, Err}
use Rattle.std.specs.Result.{result_unwrap_or}

-- the number is known
pub known : {n k : ℕ} → n ≡ k → kind_at k ≡ kind_at n
known e = ap kind_at (sym e)

-- it is none of the table's
pub unknown : (k : ℕ) → length kinds ≤ k → leaf_kind (λ a. atom bottom) unused ≡ kind_at k
unfolding kind_at
unknown k h = sym (get_or-eq_default kinds _ h)

-- the kind of a number, and past the table's end what stands there
pub by_number : (n : ℕ) (r : Result Kind UnknownKind) {k : Kind} → Decodes n r → k ≡ result_unwrap_or r (kind.Atom atoms.Bottom) → line_of k ≡ kind_at n
by_number n (Ok k') h q = ap line_of q ∙ h.1
by_number n (Err e) h q = ap line_of q ∙ unknown n h.1

-- what is made of the node of a triple, by the kind that was found
pub by_kind {ℓ} : {A : Type ℓ} (t : Triple) (f : Node → A) {k k' : Kind} → k ≡ k' → line_of k ≡ kind_at t.0
    → f ((line_of k').node t.1 t.2) ≡ f (node_of t)
by_kind t f q e = ap (λ k. f ((line_of k).node t.1 t.2)) (sym q) ∙ ap (λ (κ : table.Kind). f (κ.node t.1 t.2)) e

-- ---- operands
module _ (j : ℕ) (t : Triple) {k : Kind} (e : line_of k ≡ kind_at t.0) (h : node_holds j t ≡ true) where
  -- of node j, by its kind
  pub operands : {k' : Kind} → k ≡ k' → (fits (line_of k').first j t.1 && fits (line_of k').second j t.2) ≡ true
  operands q =
      subst (λ (κ : table.Kind). (fits κ.first j t.1 && fits κ.second j t.2) ≡ true) (sym e ∙ ap line_of q) (and_r (ltb t.0 (length kinds)) _ h)

  -- of an atom, for any node: it names none
  pub atom_operand : {x : Atom} → k ≡ kind.Atom x → (i : ℕ) → fits (operand_of x) i t.1 ≡ true
  atom_operand {x} q i = any x i j t.1 ∙ and_l (fits (operand_of x) j t.1) _ (operands q)
    where
      any : (x : Atom) (i j a : ℕ) → fits (operand_of x) i a ≡ fits (operand_of x) j a
      any atoms.Top i j a = refl
      any atoms.Bottom i j a = refl
      any atoms.Proposition i j a = refl
      any atoms.Complement i j a = refl
      any atoms.Tau i j a = refl
      any (atoms.Action d) i j a = refl
      any (atoms.Group d) i j a = refl

-- once the atom is known, so is the range of its operand
pub operand_under : {x x' : Atom} (a : ℕ) {n : ℕ} → x ≡ x' → ((i : ℕ) → fits (operand_of x) i a ≡ true) → operand_of x' ≡ under n → a < n
operand_under a {n} q h e = ltb-true a n (ap (λ (o : Operand). fits o 0 a) (sym (ap operand_of q ∙ e)) ∙ h 0)

-- a shift by it makes the set of one
pub shifted : (a : ℕ) → a < 8 → 1 * 2 ^ a % 2 ^ 64 ≡ 2 ^ a
shifted a h =
    let small : 2 ^ a < 2 ^ 64 = pow-lt {j = 64} (omega arith) in
    simp (one-mul, mod-eq_of_lt small)
