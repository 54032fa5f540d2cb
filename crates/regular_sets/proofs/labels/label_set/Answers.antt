-- `regular_sets::labels::label_set` meets its contract: the test tells of each state whether it is in the set.
use Rattle.std.proofs.Common.{rules}
use Rattle.regular_sets.proofs.labels.label_set.Goals as goal

pub returns : goal.returns
returns c = c.store.ensures _ (λ s b h k. search rules)
