-- What is filled in for an atom or an operator is its table.
-- What the table functions fill in is the atom's meaning, entry by entry.
use Prim.Native.Nat.{ℕ, ◌-◌, ◌*◌, ◌%◌, ◌^◌, ◌<◌}
use mathlib.Core.Bool.{Bool}
use mathlib.Core.List.{List}
use mathlib.Core.Path.{◌≡◌, sym, ap, ap₂, ◌∙◌, subst}
use Rattle.flc.specs.Formula.{modal, mean_atom}
use Rattle.flc.proofs.Masks.{set_of-none, set_all, set_rest}
use Rattle.case_model.specs.Areas.{Filled}
use Rattle.case_model.proofs.Filling.{filled_ext}
use Rattle.case_reader.specs.declared.kinds.Atom.{Atom}
use Rattle.case_reader.specs.declared.kinds.Atom.TheVariants as atoms
use Rattle.case_reader.specs.declared.kinds.Operator.{Operator}
use Rattle.case_reader.specs.NodeKinds.{atom_with, op_of}
use Rattle.case_reader.proofs.Knowing.{shifted}
use Rattle.case_plan.specs.Plans.{Plan, Sized}
use Rattle.tables.specs.Tables.{AtomFilled, OperatorFilled}
use Rattle.tables.proofs.Sizes.{props_are}

-- ---- atoms
module _ {p : Plan} (z : Sized p) {w v : List ℕ} (a : ℕ) {base : ℕ} {x : Atom} where
  -- what was filled in for the atom that was found
  pub atom_holds : {x' : Atom} → x ≡ x' → AtomFilled p w v base (atom_with x' a) → AtomFilled p w v base (atom_with x a)
  atom_holds q S = subst (λ x. AtomFilled p w v base (atom_with x a)) (sym q) S

  pub top_holds : x ≡ atoms.Top → Filled w v base p.size (λ y. p.size - 1) → AtomFilled p w v base (atom_with x a)
  unfolding mean_atom
  top_holds q S = atom_holds q (filled_ext S (λ y k. ap (λ m. m - 1) z.size ∙ sym (set_all p.states)))

  pub bottom_holds : x ≡ atoms.Bottom → Filled w v base p.size (λ y. 0) → AtomFilled p w v base (atom_with x a)
  unfolding mean_atom
  bottom_holds q S = atom_holds q (filled_ext S (λ y k. sym (set_of-none p.states)))

  pub proposition_holds : x ≡ atoms.Proposition → a < 8 → Filled w v base p.size (λ y. p.props a) → AtomFilled p w v base (atom_with x a)
  unfolding mean_atom
  proposition_holds q l S = atom_holds q (filled_ext S (λ y k. props_are z a l))

  pub complement_holds : x ≡ atoms.Complement → a < 8 → Filled w v base p.size (λ y. p.size - 1 - p.props a) → AtomFilled p w v base (atom_with x a)
  unfolding mean_atom
  complement_holds q l S = atom_holds q (filled_ext S (λ y k. ap₂ (λ m i. m - 1 - i) z.size (props_are z a l) ∙ set_rest p.states _))

  pub tau_holds : x ≡ atoms.Tau → Filled w v base p.size (λ y. y) → AtomFilled p w v base (atom_with x a)
  unfolding mean_atom
  tau_holds q S = atom_holds q S

  -- the group of one action, by a shift
  pub action_holds : {d : Bool} → x ≡ atoms.Action d → a < 8 → AtomFilled p w v base (modal d (1 * 2 ^ a % 2 ^ 64)) → AtomFilled p w v base (atom_with x a)
  action_holds {d} q l S = atom_holds q (subst (λ g. AtomFilled p w v base (modal d g)) (shifted a l) S)

-- ---- operators
pub operator_holds : {w v : List ℕ} {size : ℕ} (left right : ℕ) {base : ℕ} {o o' : Operator} → o ≡ o'
    → OperatorFilled w v size left right base (op_of o') → OperatorFilled w v size left right base (op_of o)
operator_holds {w} {v} {size} left right {base} q S = subst (λ o. OperatorFilled w v size left right base (op_of o)) (sym q) S
