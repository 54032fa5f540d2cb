-- Tests over finitely many numbers, and sets of states as numbers, of any width n: docs/SPECIFICATION.md, clause 3.1.
-- The connectives are the library's, under names that stay shut in proofs.
use Rattle.std.specs.Prelude.{Bool, true, false, ◌&&◌, ◌||◌, not, cond, ℕ, zero, suc, ◌+◌, ◌*◌, ◌/◌, ◌%◌, ◌^◌, eqb}

unfoldable pub both : Bool → Bool → Bool
both a b = a && b

unfoldable pub either : Bool → Bool → Bool
either a b = a || b

unfoldable pub implies : Bool → Bool → Bool
implies a b = not a || b

-- p holds of every number below n
unfoldable pub for_all : ℕ → (ℕ → Bool) → Bool
for_all zero p = true
for_all (suc n) p = both (for_all n p) (p n)

-- p holds of some number below n
unfoldable pub for_some : ℕ → (ℕ → Bool) → Bool
for_some zero p = false
for_some (suc n) p = either (for_some n p) (p n)

-- of the numbers below n that p holds of, q holds of some if the flag is true, and else of all
unfoldable pub among : Bool → ℕ → (ℕ → Bool) → (ℕ → Bool) → Bool
among true n p q = for_some n (λ i. both (p i) (q i))
among false n p q = for_all n (λ i. implies (p i) (q i))

-- the least of the k numbers from i on of which p holds, else i + k
unfoldable pub first : (ℕ → Bool) → ℕ → ℕ → ℕ
first p i zero = i
first p i (suc k) = cond (p i) i (first p (suc i) k)

-- clause 3.1: state s is in the set x if bit s of x is 1
unfoldable pub has : ℕ → ℕ → Bool
has x s = eqb (x / 2 ^ s % 2) 1

abbrev pub bit : Bool → ℕ
bit true = 1
bit false = 0

-- the set that has k alone
abbrev pub singleton : ℕ → ℕ
singleton k = 2 ^ k

-- the set of the states below n of which p holds
unfoldable pub set_of : ℕ → (ℕ → Bool) → ℕ
set_of zero p = 0
set_of (suc n) p = bit (p zero) + 2 * set_of n (λ s. p (suc s))
