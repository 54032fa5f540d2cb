-- Tables of kinds, in which entry i is the kind that byte i stands for: docs/SPECIFICATION.md, section 13.
use Rattle.std.specs.Prelude.{ℕ, Bool, List, eqb, length, get_or}
use Rattle.flc.specs.Sets.{first}
use Rattle.flc.specs.Permutations.{is_permutation}
use Rattle.case_model.specs.Bytes.{list_of, byte_at}
use Rattle.case_model.specs.Kinds.{kinds}

-- clause 13.1: the number of each kind once
abbrev pub is_table : List ℕ → Bool
is_table t = is_permutation (length kinds) t

-- clause 13.2: the kind that a byte stands for is its entry; a byte past the table stands for itself
unfoldable pub stands_for : List ℕ → ℕ → ℕ
stands_for t k = get_or t k k

-- clause 13.8: each byte stands for itself
abbrev pub identity : List ℕ
identity = list_of (length kinds) (λ i. i)

-- clause 13.9: entry k is the byte that stands for k
unfoldable pub inverse : List ℕ → List ℕ
inverse t = list_of (length kinds) (λ k. first (λ i. eqb (byte_at t i) k) 0 (length kinds))
