-- The vocabulary that the code holds, and how it is gathered, node by node. The private contracts cite this; the public one says what it is.
use Rattle.std.specs.Prelude.{ℕ, zero, suc, Bool, cond}
use Rattle.flc.specs.Sets.{has}
use Rattle.flc.specs.Nodes.{Node}
use Rattle.flc.specs.Vocabulary.{Vocabulary, nothing, union}
use Rattle.case_model.specs.Looking.{own}
use Rattle.vocabulary.specs.declared.looking.Vocabulary as code

abbrev pub vocabulary_of : code.Vocabulary → Vocabulary
vocabulary_of v = record { props = v.props; acts = v.acts }

-- with what the node n looks at, if it counts
abbrev pub with_node : Vocabulary → Bool → Node → Vocabulary
with_node W counts n = cond counts (union W (own n)) W

-- what the nodes below j look at, of those that are in the set x
unfoldable pub gathered : (ℕ → Node) → ℕ → ℕ → Vocabulary
gathered N x zero = nothing
gathered N x (suc j) = with_node (gathered N x j) (has x j) (N j)
