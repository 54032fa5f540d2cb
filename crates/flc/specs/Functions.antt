-- Functions on sets; least and greatest as Knaster and Tarski define them; approximants and rounds: docs/SPECIFICATION.md, section 2.
-- The sets of n states are the numbers below 2 ^ n. The flag d: true for the least (μ), false for the greatest (ν).
use Rattle.std.specs.Prelude.{Bool, not, ℕ, zero, suc, ◌*◌, ◌^◌, eqb}
use Rattle.flc.specs.Sets.{both, implies, for_all, first, has, set_of}

abbrev pub Fun : Type 0
Fun = ℕ → ℕ

unfoldable pub contained : ℕ → ℕ → ℕ → Bool
contained n x y = for_all n (λ s. implies (has x s) (has y s))

-- clause 2.7: f is below g
unfoldable pub below : ℕ → Fun → Fun → Bool
below n f g = for_all (2 ^ n) (λ x. contained n (f x) (g x))

-- clause 2.1: the larger the set, the larger what f yields
unfoldable pub monotone : ℕ → Fun → Bool
monotone n f = for_all (2 ^ n) (λ x. for_all (2 ^ n) (λ y. implies (contained n x y) (contained n (f x) (f y))))

-- clause 2.11: f and g yield the same at all sets
unfoldable pub agree : ℕ → Fun → Fun → Bool
agree n f g = for_all (2 ^ n) (λ x. eqb (f x) (g x))

abbrev pub cons : ℕ → Fun → Fun
cons v f zero = v
cons v f (suc x) = f x

-- p holds of every function from the numbers below k to the numbers below b; and of some
unfoldable pub for_all_fun : ℕ → ℕ → (Fun → Bool) → Bool
for_all_fun zero b p = p (λ x. 0)
for_all_fun (suc k) b p = for_all b (λ v. for_all_fun k b (λ f. p (cons v f)))

unfoldable pub for_some_fun : ℕ → ℕ → (Fun → Bool) → Bool
for_some_fun k b p = not (for_all_fun k b (λ f. not (p f)))

-- clause 2.8: at x, the states that every monotone f has which body(f) is below
unfoldable pub meet : ℕ → (Fun → Fun) → Fun
meet n body x =
    set_of n (λ s. for_all_fun (2 ^ n) (2 ^ n) (λ f. implies (both (monotone n f) (below n (body f) f)) (has (f x) s)))

-- clause 2.9: at x, the states that some monotone f has which is below body(f)
unfoldable pub join : ℕ → (Fun → Fun) → Fun
join n body x =
    set_of n (λ s. for_some_fun (2 ^ n) (2 ^ n) (λ f. both (both (monotone n f) (below n f (body f))) (has (f x) s)))

-- clause 2.10: begin with no state (μ) or with all (ν), then apply the body
unfoldable pub approximant : Bool → ℕ → (Fun → Fun) → ℕ → Fun
approximant d n body zero x = set_of n (λ s. not d)
approximant d n body (suc k) x = body (approximant d n body k) x

-- clauses 2.11 and 2.12: the first approximant that the next one equals, looked for up to n × 2^n
unfoldable pub rounds : Bool → ℕ → (Fun → Fun) → ℕ
rounds d n body = first (λ k. agree n (approximant d n body k) (approximant d n body (suc k))) 0 (n * 2 ^ n)
