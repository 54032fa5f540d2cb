-- A set of up to 256 states in 32 bytes: docs/SPECIFICATION.md, clause 12.4.
use Rattle.std.specs.Prelude.{ℕ, ◌+◌, ◌*◌, ◌/◌, ◌%◌, Bool, List}
use Rattle.flc.specs.Sets.{has, set_of}
use Rattle.case_model.specs.Bytes.{list_of, byte_at}

-- byte i has the states 8i to 8i + 7, the lowest in its lowest bit
unfoldable pub byte_of : ℕ → ℕ → ℕ
byte_of x i = set_of 8 (λ t. has x (8 * i + t))

-- a set of fewer states than 256 has no others, so the bits past them are 0
unfoldable pub set_bytes : ℕ → List ℕ
set_bytes x = list_of 32 (byte_of x)

-- state s is in the set that these bytes are
abbrev pub in_bytes : List ℕ → ℕ → Bool
in_bytes l s = has (byte_at l (s / 8)) (s % 8)
