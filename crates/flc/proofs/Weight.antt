-- How many members a set has, and the weight of a function on sets, the number of its members at all sets together: what bounds the rounds.
-- They are at most n and n * 2 ^ n, rise with the set and the function, and what is above another of as many members is that one.
use mathlib.Core.Path.{◌≡◌}
use mathlib.Core.Bool.{Bool, true, false}
use Prim.Native.Nat.{ℕ, ◌*◌, ◌^◌, ◌≤◌, ◌<◌}
use native.Mathlib.Omega.{arith}
use lib.Dec.{T}
use Rattle.flc.specs.Sets.{has, bit}
use Rattle.flc.specs.Functions.{Fun}
use Rattle.flc.specs.Sums.{sum_of, count_of}
use Rattle.flc.specs.Order.{signed, Sub, Below}
use Rattle.flc.proofs.Masks.{bit_le}
use Rattle.flc.proofs.Sums.{sum_same, sum_le, sum_eq}

-- digits as tests
pub bit-rises : (a b : Bool) → (T a → T b) → bit a ≤ bit b
bit-rises true true h = omega arith
bit-rises true false h = absurd (h tt)
bit-rises false b h = omega arith

bit_back : (a b : Bool) → bit a ≡ bit b → T b → T a
bit_back true b e t = tt
bit_back false true e t = absurd (omega arith)
bit_back false false e t = t

-- of terms that are at most c
sum_max : (n c : ℕ) (f : ℕ → ℕ) → ((i : ℕ) → i < n → f i ≤ c) → sum_of n f ≤ c * n
sum_max n c f h = omega (arith, sum_le n f (λ i. c) h, sum_same n c)

-- the members of a set of n states: with the flag false, those that it lacks
pub members : Bool → ℕ → ℕ → ℕ
members d n x = count_of n (λ s. signed d (has x s))

pub members_max : (d : Bool) (n x : ℕ) → members d n x ≤ n
unfolding members count_of
members_max d n x = omega (arith, sum_max n 1 _ (λ s k. bit_le (signed d (has x s))))

-- x below y: then x has no more, and if it has no fewer either, y is below x
module _ (d : Bool) (n x y : ℕ) (h : Sub d n x y) where
  each : (s : ℕ) → s < n → bit (signed d (has x s)) ≤ bit (signed d (has y s))
  each s k = bit-rises (signed d (has x s)) (signed d (has y s)) (h s k)

  pub members_le : members d n x ≤ members d n y
  unfolding members count_of
  members_le = sum_le n _ _ each

  pub members_eq : members d n x ≡ members d n y → Sub d n y x
  unfolding members count_of
  members_eq e s k = bit_back (signed d (has x s)) (signed d (has y s)) (sum_eq n _ _ each (omega arith) s k)

-- the members at all sets
pub weight : Bool → ℕ → Fun → ℕ
weight d n f = sum_of (2 ^ n) (λ x. members d n (f x))

-- each of n states is in each of 2 ^ n sets at most once
pub weight_max : (d : Bool) (n : ℕ) (f : Fun) → weight d n f ≤ n * 2 ^ n
unfolding weight
weight_max d n f = sum_max (2 ^ n) n _ (λ x i. members_max d n (f x))

-- f below g: then f is no heavier, and if it is no lighter either, g is below f
module _ (d : Bool) (n : ℕ) (f g : Fun) (h : Below d n f g) where
  at : (x : ℕ) → x < 2 ^ n → members d n (f x) ≤ members d n (g x)
  at x i = members_le d n (f x) (g x) (h x i)

  pub weight_le : weight d n f ≤ weight d n g
  unfolding weight
  weight_le = sum_le (2 ^ n) _ _ at

  pub weight_eq : weight d n f ≡ weight d n g → Below d n g f
  unfolding weight
  weight_eq e x i = members_eq d n (f x) (g x) (h x i) (sum_eq (2 ^ n) _ _ at (omega arith) x i)
