-- `regular_profile::profile::modal_at` meets its contract, by cases on the kind.
use mathlib.Core.Logic.{⊎_elim}
use mathlib.Core.Path.{◌∙◌}
use Rattle.case_reader.specs.Read.{triple}
use Rattle.regular_profile.proofs.Regularity.{found_modal, atom_modal}
use Rattle.regular_profile.proofs.profile.modal_at.Goals as goal

pub returns-in-Atom : goal.returns-in-Atom
returns-in-Atom c =
    let x = c.node in
    c.is_modality.ensures ∙ atom_modal (triple x.result) x.ensures.is c.kind_of.ensures c.in-Atom.is

pub returns-in-Variable : goal.returns-in-Variable
returns-in-Variable c =
    let x = c.node in
    let t = triple x.result in
    ⊎_elim (λ e. found_modal t x.ensures.is c.kind_of.ensures e)
    (⊎_elim (λ (o, e). found_modal t x.ensures.is c.kind_of.ensures e) (λ (d, e). found_modal t x.ensures.is c.kind_of.ensures e))
    c.in-Variable.is
