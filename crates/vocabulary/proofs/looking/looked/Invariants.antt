-- `vocabulary::looking::looked` meets its contract. The loop's invariant: what the reached nodes below j look at is gathered.
use mathlib.Core.Path.{◌≡◌}
use Rattle.case_model.specs.Case.{read, node_at}
use Rattle.vocabulary.specs.Gathering.{vocabulary_of, gathered}
use Rattle.vocabulary.proofs.looking.looked.Given as goal

abbrev pub invariant-loop-j : goal.invariant-loop-j
invariant-loop-j l = vocabulary_of l.all ≡ gathered (node_at (read l.file)) l.nodes l.j
