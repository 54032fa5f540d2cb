-- `regular_profile::profile::node_suits` meets its contract, by cases on the kind.
use mathlib.Core.Bool.{not}
use mathlib.Core.Path.{ap, ◌∙◌}
use Rattle.flc.specs.Sets.{either}
use Rattle.case_reader.specs.Read.{triple}
use Rattle.regular_model.specs.Regular.{regular}
use Rattle.regular_profile.proofs.Regularity.{found-suits, atom_suits, sides_suit}
use Rattle.regular_profile.proofs.profile.node_suits.Goals as goal

pub returns-in-Atom : goal.returns-in-Atom
returns-in-Atom c =
    let x = c.node-x in
    c.is_tau.ensures ∙ atom_suits (triple x.result) x.ensures.is c.kind_of.ensures _ c.in-Atom.is

pub returns-in-Variable : goal.returns-in-Variable
unfolding either regular
returns-in-Variable c =
    let x = c.node-x in
    found-suits (triple x.result) x.ensures.is c.kind_of.ensures _ c.in-Variable.is

pub returns-in-Two : goal.returns-in-Two
returns-in-Two c =
    let x = c.node-x in
    rw c.sides_suit.ensures (sides_suit (triple x.result) x.ensures.is c.kind_of.ensures _ c.in-Two.is)

pub returns-in-Binder : goal.returns-in-Binder
returns-in-Binder c =
    let x = c.node-x in
    ap not c.modal_at.ensures ∙ found-suits (triple x.result) x.ensures.is c.kind_of.ensures _ c.in-Binder.is
