-- `bisimilarity::graph::Graph::draw` meets its contract: the parts are those of the case, as far as its rule looks.
use mathlib.Core.Path.{ap, ◌∙◌}
use native.Mathlib.Omega.{arith}
use Prim.Native.Nat.{ℕ}
use lib.Bits.{bit_and}
use lib.ListN.{get_or}
use Rattle.flc.specs.Vocabulary.{Vocabulary}
use Rattle.case_model.specs.Case.{read}
use Rattle.case_model.specs.Limits.{standard}
use Rattle.case_model.specs.Valid.{Valid}
use Rattle.case_model.proofs.Valid.{accepted_valid}
use Rattle.case_file.specs.declared.accepted.CaseWithin.{CaseWithin}
use Rattle.bisimilarity.proofs.Drawing.{drawn, within}
use Rattle.bisimilarity.proofs.graph.Graph.draw.Goals as goal

valid : (case : CaseWithin 6394 16) → Valid standard (read case.file.now)
valid case = accepted_valid standard _ case.accepted.rows

pub looked-seen-requires : goal.looked-seen-requires
looked-seen-requires c = rw c.file-file.ensures (valid c.args.case).rule

pub labels-labels-requires : goal.labels-labels-requires
labels-labels-requires c = rw c.file-file.ensures (valid c.args.case).table

pub invariant_of-result : goal.invariant_of-result
invariant_of-result c =
    let v = valid c.args.case in
    let states = c.states-states.ensures ∙ c.args.case.accepted.states in
    record { few = omega (arith, states, v.table.few); within = within v.table c.requires states }

pub returns : goal.returns
returns c =
    let case = c.args.case in
    let props : ℕ → Vocabulary → ℕ = λ s W. bit_and (get_or (read case.file.now).labels s 0) W.props in
    let seen = rw c.file-file.ensures at c.looked-seen.ensures in
    let labels = rw c.file-file.ensures at c.labels-labels.ensures in
    let states = c.states-states.ensures ∙ case.accepted.states in
    drawn (valid case).table _ states (λ s. labels s ∙ ap (props s) seen) (ap (λ (W : Vocabulary). W.acts) seen) c.requires
