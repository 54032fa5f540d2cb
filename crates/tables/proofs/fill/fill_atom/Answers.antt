-- `tables::fill::fill_atom` meets its contract: for each atom, what the table function fills in is its meaning, and its operand is in range.
use mathlib.Core.Path.{refl}
use native.Mathlib.Omega.{arith}
use Rattle.tables.proofs.Sizes.{size_some}
use Rattle.case_reader.proofs.Knowing.{operand_under}
use Rattle.tables.proofs.Values.{atom_holds, top_holds, bottom_holds, proposition_holds, complement_holds, tau_holds, action_holds}
use Rattle.tables.proofs.fill.fill_atom.Goals as goal

pub overflow_sub-full : goal.overflow_sub-full
overflow_sub-full c = omega (arith, size_some c.requires.0)

pub overflow_cast-full : goal.overflow_cast-full
overflow_cast-full c = omega (arith, size_some c.requires.0)

pub prop-requires : goal.prop-requires
prop-requires c = operand_under c.args.a c.in-Proposition.is c.requires.1 refl

pub prop-requires-in-Complement : goal.prop-requires-in-Complement
prop-requires-in-Complement c = operand_under c.args.a c.in-Complement.is c.requires.1 refl

pub overflow_sub-full-in-Complement : goal.overflow_sub-full-in-Complement
overflow_sub-full-in-Complement c =
    let low = operand_under c.args.a c.in-Complement.is c.requires.1 refl in
    omega (arith, c.prop-in-Complement.ensures, c.requires.0.props c.args.a low)

pub identity-requires : goal.identity-requires
identity-requires c =
    (c.requires.2, (size_some c.requires.0).1)

pub overflow_shl-a : goal.overflow_shl-a
overflow_shl-a c =
    omega (arith, operand_under c.args.a c.in-Action.is c.requires.1 refl)

pub modality-requires : goal.modality-requires
modality-requires c =
    (c.requires.0, c.requires.2)

pub modality-requires-in-Group : goal.modality-requires-in-Group
modality-requires-in-Group c =
    (c.requires.0, c.requires.2)

pub returns-in-Top : goal.returns-in-Top
returns-in-Top c =
    top_holds c.requires.0 c.args.a c.in-Top.is c.constant.ensures

pub returns-in-Bottom : goal.returns-in-Bottom
returns-in-Bottom c =
    bottom_holds c.requires.0 c.args.a c.in-Bottom.is c.constant-in-Bottom.ensures

pub returns-in-Proposition : goal.returns-in-Proposition
returns-in-Proposition c =
    let low = operand_under c.args.a c.in-Proposition.is c.requires.1 refl in
    proposition_holds c.requires.0 c.args.a c.in-Proposition.is low (rw c.prop.ensures at c.constant-in-Proposition.ensures)

pub returns-in-Complement : goal.returns-in-Complement
returns-in-Complement c =
    let low = operand_under c.args.a c.in-Complement.is c.requires.1 refl in
    complement_holds c.requires.0 c.args.a c.in-Complement.is low (rw c.prop-in-Complement.ensures at c.constant-in-Complement.ensures)

pub returns-in-Tau : goal.returns-in-Tau
returns-in-Tau c =
    tau_holds c.requires.0 c.args.a c.in-Tau.is c.identity.ensures

pub returns-in-Action : goal.returns-in-Action
returns-in-Action c =
    let low = operand_under c.args.a c.in-Action.is c.requires.1 refl in
    action_holds c.requires.0 c.args.a c.in-Action.is low c.modality.ensures

pub returns-in-Group : goal.returns-in-Group
returns-in-Group c =
    atom_holds c.requires.0 c.args.a c.in-Group.is c.modality-in-Group.ensures
