-- Sums over the numbers below n, and how many of them pass a test.
use Rattle.std.specs.Prelude.{ℕ, zero, suc, ◌+◌, Bool}
use Rattle.flc.specs.Sets.{bit}

-- f 0 + f 1 + .. + f (n - 1)
unfoldable pub sum_of : ℕ → (ℕ → ℕ) → ℕ
sum_of zero f = 0
sum_of (suc n) f = sum_of n f + f n

-- how many numbers below n p holds of; with `has x` for p, how many members the set x has
unfoldable pub count_of : ℕ → (ℕ → Bool) → ℕ
count_of n p = sum_of n (λ i. bit (p i))
