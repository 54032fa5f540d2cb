-- `regular_profile::profile::sides_suit` meets its contract, operator by operator.
use mathlib.Core.Logic.{⊎_elim}
use mathlib.Core.Path.{refl}
use Rattle.flc.specs.Sets.{both, either, implies}
use Rattle.regular_model.specs.Profile.{suits}
use Rattle.regular_profile.proofs.profile.sides_suit.Goals as goal

pub returns-in-Or : goal.returns-in-Or
unfolding suits both either implies
returns-in-Or c = rw (c.modal_at-left.ensures, c.modal_at-right.ensures) (⊎_elim (λ e. rw e refl) (λ e. rw e refl) c.in-Or.is)

pub returns-in-Chop : goal.returns-in-Chop
unfolding suits both either implies
returns-in-Chop c = rw (c.modal_at-left.ensures, c.modal_at-right.ensures, c.in-Chop.is) refl
