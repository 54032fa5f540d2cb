-- `vocabulary::looking::of_atom` meets its contract: for each atom, what its line says; a shift loses no bit, since the operand is in range.
use Prim.Native.Nat.{ℕ, ◌<◌}
use mathlib.Core.Bool.{true}
use mathlib.Core.Logic.{◌⊎◌, ⊎_elim}
use mathlib.Core.Path.{◌≡◌, refl, ap, ◌∙◌}
use native.Mathlib.Omega.{arith}
use Rattle.flc.specs.Vocabulary.{only_props, only_acts, vocabulary}
use Rattle.case_model.specs.Kinds.{fits}
use Rattle.case_reader.specs.NodeKinds.{operand_of}
use Rattle.case_reader.specs.declared.kinds.Atom.{Atom}
use Rattle.case_reader.specs.declared.kinds.Atom.TheVariants as atoms
use Rattle.case_reader.proofs.Knowing.{operand_under, shifted}
use Rattle.vocabulary.proofs.Gathered.{by_atom}
use Rattle.vocabulary.proofs.looking.of_atom.Goals as goal

-- a proposition, or its complement, is one of eight
few : {x : Atom} (a : ℕ) → (x ≡ atoms.Proposition) ⊎ (x ≡ atoms.Complement) → ((j : ℕ) → fits (operand_of x) j a ≡ true) → a < 8
few a told h = ⊎_elim (λ e. operand_under a e h refl) (λ e. operand_under a e h refl) told

pub overflow_shl-a : goal.overflow_shl-a
overflow_shl-a c = omega (arith, few c.args.a c.in-Proposition.is c.requires)

pub overflow_shl-a-in-Action : goal.overflow_shl-a-in-Action
overflow_shl-a-in-Action c = omega (arith, operand_under c.args.a c.in-Action.is c.requires refl)

pub returns-in-Proposition : goal.returns-in-Proposition
unfolding vocabulary
returns-in-Proposition c =
    let a = c.args.a in
    c.of_props.ensures ∙ ap only_props (omega (arith, shifted a (few a c.in-Proposition.is c.requires)))
    ∙ ⊎_elim (by_atom a) (by_atom a) c.in-Proposition.is

pub returns-in-Action : goal.returns-in-Action
unfolding vocabulary
returns-in-Action c =
    let a = c.args.a in
    let told = c.in-Action.is in
    c.of_acts.ensures ∙ ap only_acts (omega (arith, shifted a (operand_under a told c.requires refl))) ∙ by_atom a told
