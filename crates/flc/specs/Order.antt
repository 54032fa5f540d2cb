-- The order of functions on sets as types, where Functions.antt has it as tests: docs/SPECIFICATION.md, clauses 2.1 and 2.7.
-- One order and its reverse are treated at once, by a flag: true for containment, false for its reverse. Contracts of the code that computes
-- approximants cite these; what the entries promise does not.
use Rattle.std.specs.Prelude.{◌≡◌, Bool, true, false, not, ℕ, ◌^◌, ◌<◌, T}
use Rattle.flc.specs.Sets.{has}
use Rattle.flc.specs.Functions.{Fun}
use Rattle.flc.specs.Formula.{Env}

-- b itself; with the flag false its complement
abbrev pub signed : Bool → Bool → Bool
signed true b = b
signed false b = not b

-- s is in x; with the flag false: is not
abbrev pub In : Bool → ℕ → ℕ → Type 0
In d x s = T (signed d (has x s))

-- x is contained in y; with the flag false: y in x
abbrev pub Sub : Bool → ℕ → ℕ → ℕ → Type 0
Sub d n x y = (s : ℕ) → s < n → In d x s → In d y s

-- f is below g at every set
abbrev pub Below : Bool → ℕ → Fun → Fun → Type 0
Below d n f g = (x : ℕ) → x < 2 ^ n → Sub d n (f x) (g x)

-- f and g are equal at every set
abbrev pub Agree : ℕ → Fun → Fun → Type 0
Agree n f g = (x : ℕ) → x < 2 ^ n → f x ≡ g x

-- a monotone function on sets
pub record Good (n : ℕ) (f : Fun) : Type 0 where
  pub small : (x : ℕ) → x < 2 ^ n → f x < 2 ^ n
  pub mono : (x y : ℕ) → x < 2 ^ n → y < 2 ^ n → Sub true n x y → Sub true n (f x) (f y)

-- a function for each variable, all of them monotone
abbrev pub GoodEnv : ℕ → Env → Type 0
GoodEnv n ρ = (v : ℕ) → Good n (ρ v)
