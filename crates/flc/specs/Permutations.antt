-- Lists of numbers: sums in the order of a list, and lists that name each number below n once: docs/SPECIFICATION.md, clause 13.1.
use Rattle.std.specs.Prelude.{ℕ, ◌+◌, Bool, ◌&&◌, List, [], ◌∷◌, eqb, length}
use Rattle.flc.specs.Sets.{bit, for_all}

-- f of each number in the list, added up in its order
unfoldable pub sum_over : (ℕ → ℕ) → List ℕ → ℕ
sum_over f [] = 0
sum_over f (j ∷ l) = f j + sum_over f l

-- how often i stands in the list
unfoldable pub times : ℕ → List ℕ → ℕ
times i l = sum_over (λ j. bit (eqb j i)) l

-- the list names each number below n once, and nothing else
unfoldable pub is_permutation : ℕ → List ℕ → Bool
is_permutation n l = eqb (length l) n && for_all n (λ i. eqb (times i l) 1)
