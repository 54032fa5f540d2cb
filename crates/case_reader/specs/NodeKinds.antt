-- The line of the table of kinds that each kind of the code is: docs/SPECIFICATION.md, clause 1.7.
use Rattle.std.specs.Prelude.{ℕ, true, false, ◌≡◌, ◌≤◌, length, Result, MatchResult}
use Rattle.flc.specs.Sets.{singleton}
use Rattle.flc.specs.Formula.{Atom, Op, or, and, chop, atom, var, top, bottom, tau, prop, nprop, modal, actions}
use Rattle.case_model.specs.Limits.{propositions, variables, groups}
use Rattle.case_model.specs.Kinds as table
use Rattle.case_model.specs.Kinds.{Operand, unused, under, leaf_kind, two_kind, binder_kind, kinds, kind_at}
use Rattle.case_reader.specs.declared.kinds.Atom as code
use Rattle.case_reader.specs.declared.kinds.Atom.TheVariants as atoms
use Rattle.case_reader.specs.declared.kinds.Operator.{Operator}
use Rattle.case_reader.specs.declared.kinds.Operator.TheVariants as operators
use Rattle.case_reader.specs.declared.kinds.Kind.{Kind}
use Rattle.case_reader.specs.declared.kinds.Kind.TheVariants as code_kinds
use Rattle.case_reader.specs.declared.kinds.UnknownKind.{UnknownKind}

abbrev pub atom_with : code.Atom → ℕ → Atom
atom_with atoms.Top a = top
atom_with atoms.Bottom a = bottom
atom_with atoms.Proposition a = prop a
atom_with atoms.Complement a = nprop a
atom_with atoms.Tau a = tau
atom_with (atoms.Action d) a = modal d (singleton a)
atom_with (atoms.Group d) a = modal d a

abbrev pub op_of : Operator → Op
op_of operators.Or = or
op_of operators.And = and
op_of operators.Chop = chop

-- what the operand of an atom can be
abbrev pub operand_of : code.Atom → Operand
operand_of atoms.Top = unused
operand_of atoms.Bottom = unused
operand_of atoms.Proposition = under propositions
operand_of atoms.Complement = under propositions
operand_of atoms.Tau = unused
operand_of (atoms.Action d) = under actions
operand_of (atoms.Group d) = under groups

abbrev pub line_of : Kind → table.Kind
line_of (code_kinds.Atom x) = leaf_kind (λ a. atom (atom_with x a)) (operand_of x)
line_of code_kinds.Variable = leaf_kind var (under variables)
line_of (code_kinds.Two o) = two_kind (op_of o)
line_of (code_kinds.Binder d) = binder_kind d

-- the number of each kind
abbrev pub number_of : Kind → ℕ
number_of (code_kinds.Atom atoms.Top) = 0
number_of (code_kinds.Atom atoms.Bottom) = 1
number_of (code_kinds.Atom atoms.Proposition) = 2
number_of (code_kinds.Atom atoms.Complement) = 3
number_of code_kinds.Variable = 4
number_of (code_kinds.Atom atoms.Tau) = 5
number_of (code_kinds.Atom (atoms.Action true)) = 6
number_of (code_kinds.Atom (atoms.Action false)) = 7
number_of (code_kinds.Two o) = table.kind_of (op_of o)
number_of (code_kinds.Binder true) = 11
number_of (code_kinds.Binder false) = 12
number_of (code_kinds.Atom (atoms.Group true)) = 13
number_of (code_kinds.Atom (atoms.Group false)) = 14

-- clause 8.5: what a number is read as: the kind of that number, whose line is the table's at it, or none if the table ends before it
abbrev pub Decodes : ℕ → Result Kind UnknownKind → Type 0
Decodes n r = MatchResult r (λ k. (number_of k ≡ n) × (line_of k ≡ kind_at n)) (λ e. (e.0 ≡ n) × (length kinds ≤ n))
