-- `regular_sets::nodes::fill_atom` meets its contract, atom by atom: what was stored is the atom's set, and its operand is in range.
use mathlib.Core.Path.{refl, sym, ap, ◌∙◌}
use native.Mathlib.Omega.{arith}
use Rattle.flc.specs.Formula.{mean_atom}
use Rattle.case_model.specs.Case.{read, table}
use Rattle.case_reader.proofs.Knowing.{operand_under}
use Rattle.regular_sets.proofs.Made.{stored_as, full_set, empty_set, other_atom, atom_stored}
use Rattle.regular_sets.proofs.nodes.fill_atom.Goals as goal

pub constant-requires : goal.constant-requires
constant-requires c = let D = c.args.drive in (omega (arith, D.counted, D.viewed.table.few), c.requires.1)

pub label_set-requires : goal.label_set-requires
label_set-requires c = (operand_under c.args.a c.in-Proposition.is c.requires.0 refl, c.requires.1)

pub label_set-requires-in-Complement : goal.label_set-requires-in-Complement
label_set-requires-in-Complement c = (operand_under c.args.a c.in-Complement.is c.requires.0 refl, c.requires.1)

pub returns-in-Top : goal.returns-in-Top
returns-in-Top c =
    let D = c.args.drive in
    let C = read D.file.now in
    atom_stored C c.args.a c.in-Top.is (stored_as c.constant.ensures (full_set C D.counted))

pub returns-in-Proposition : goal.returns-in-Proposition
returns-in-Proposition c = atom_stored (read c.args.drive.file.now) c.args.a c.in-Proposition.is c.label_set.ensures

pub returns-in-Complement : goal.returns-in-Complement
returns-in-Complement c = atom_stored (read c.args.drive.file.now) c.args.a c.in-Complement.is c.label_set-in-Complement.ensures

pub returns-in_default : goal.returns-in_default
returns-in_default c =
    let D = c.args.drive in
    let C = read D.file.now in
    let other = c.in_default in
    stored_as c.constant-in_default.ensures (empty_set C D.counted
    ∙ ap (λ a. mean_atom (table C) a 0) (sym (other_atom c.args.atom c.args.a other.not-Top other.not-Proposition other.not-Complement)))
