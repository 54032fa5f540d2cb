-- `regular_profile::profile::is_regular` meets its contract: the root is no modality, and each node that is reached suits.
use borrow.Author.Rules.{rules}
use mathlib.Core.Bool.{true, false, not}
use mathlib.Core.Path.{◌≡◌, sym, ap, ◌∙◌}
use Rattle.flc.specs.Sets.{both, implies, for_all}
use Rattle.flc.proofs.Chains.{all_below}
use Rattle.case_model.specs.Case.{read}
use Rattle.regular_model.specs.Profile.{modal_at}
use Rattle.regular_profile.proofs.Regularity.{suits_in, nodes_regular}
use Rattle.regular_profile.proofs.profile.is_regular.Goals as goal

pub returns-then-not-modal_at : goal.returns-then-not-modal_at
unfolding both implies
returns-then-not-modal_at c =
    let f = read c.args.file.now in
    let valid = c.requires in
    let root : modal_at f f.root ≡ false = sym (c.modal_at.ensures ∙ ap (modal_at f) c.root.ensures.is) ∙ c.if-not-modal_at.true in
    all_below c.all.result c.node_count.result (suits_in f c.reached-nodes.result) c.all.ensures.ran (λ x b q k. search rules)
    ∙ ap (λ k. for_all k (suits_in f c.reached-nodes.result)) c.node_count.ensures.is
    ∙ rw root at (nodes_regular valid (c.reached-nodes.ensures valid))

pub returns-else-not-modal_at : goal.returns-else-not-modal_at
unfolding both
returns-else-not-modal_at c =
    let f = read c.args.file.now in
    let valid = c.requires in
    let root : modal_at f f.root ≡ true = sym (c.modal_at.ensures ∙ ap (modal_at f) c.root.ensures.is) ∙ c.if-not-modal_at.false in
    ap not c.if-not-modal_at.false ∙ rw root at (nodes_regular valid (c.reached-nodes.ensures valid))
