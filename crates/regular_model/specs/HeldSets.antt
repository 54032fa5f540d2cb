-- Sets of states in the lent byte area. The contracts of the code that computes them cite these.
use Rattle.std.specs.Prelude.{ℕ, ◌+◌, ◌*◌, ◌/◌, ◌%◌, List, get_or}
use Rattle.flc.specs.Sets.{has, set_of}
use Rattle.case_model.specs.Areas.{Filled}
use Rattle.regular_model.specs.SetBytes.{byte_of}

-- the set that the 32 bytes of w from `base` on are
unfoldable pub held_at : List ℕ → ℕ → ℕ
held_at w base = set_of 256 (λ s. has (get_or w (base + s / 8) 0) (s % 8))

-- one block of 64 bytes for each node, the first 32 of which hold its set
abbrev pub blocks : List ℕ → ℕ → ℕ
blocks w j = held_at w (64 * j)

-- v is w with the 32 bytes of the set x from `base` on
abbrev pub Stored : List ℕ → List ℕ → ℕ → ℕ → Type 0
Stored w v base x = Filled w v base 32 (byte_of x)
