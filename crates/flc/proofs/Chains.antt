-- Chains over a range in the words of specs/Sets: what `all`, `any` and `find` say of the numbers below n.
-- Each takes the clause `ran` of the call, and what one call of the closure gives.
use Prim.Native.Nat.{ℕ, zero, suc, ◌+◌, ◌-◌, ◌≤◌, ◌<◌}
use native.Mathlib.Decide.{ℕ_discrete}
use native.Mathlib.Omega.{arith}
use mathlib.Core.Bool.{Bool, true, false, ◌&&◌, ◌||◌}
use mathlib.Core.Path.{◌≡◌, refl, sym, ap, ◌∙◌}
use denote.Param.Members.{Mut}
use denote.Ref.{Bor}
use Rattle.std.specs.Fn.{Called, CalledAt}
use Rattle.std.specs.Iterator.{ChecksAll, ChecksAny, FindsItem}
use Rattle.std.specs.List.{list_all, list_any, range_with_len}
use Rattle.std.specs.Option.{MatchOption, unwrap_or}
use Rattle.std.specs.declared.option.Option.{Option}
use Rattle.std.specs.declared.option.Option.TheVariants.{None, Some}
use Rattle.std.specs.declared.ops.Range.{Range}
use Rattle.std.proofs.iter.Yields.{nat_range_steps}
use Rattle.std.proofs.lemmas.Iterator.{YieldsList-from_range, first_from_Range}
use Rattle.std.proofs.lemmas.Iterator.Search.{all_from_yields_List, any_from_yields_List}
use Rattle.flc.specs.Sets.{both, either, for_all, for_some, first}

-- a test of every number below suc n, the number 0 first
all_front : (n : ℕ) (p : ℕ → Bool) → (p 0 && for_all n (λ i. p (suc i))) ≡ for_all (suc n) p
unfolding for_all both
all_front zero p = elim (p 0) as (λ b. (b && true) ≡ (true && b)) [ true ↦ refl | false ↦ refl ]
all_front (suc n) p =
    elim (p 0) as (λ b. (b && (for_all n (λ i. p (suc i)) && p (suc n))) ≡ ((b && for_all n (λ i. p (suc i))) && p (suc n))) [ true ↦ refl | false ↦ refl ]
    ∙ ap (λ b. b && p (suc n)) (all_front n p)

some_front : (n : ℕ) (p : ℕ → Bool) → (p 0 || for_some n (λ i. p (suc i))) ≡ for_some (suc n) p
unfolding for_some either
some_front zero p = elim (p 0) as (λ b. (b || false) ≡ (false || b)) [ true ↦ refl | false ↦ refl ]
some_front (suc n) p =
    elim (p 0) as (λ b. (b || (for_some n (λ i. p (suc i)) || p (suc n))) ≡ ((b || for_some n (λ i. p (suc i))) || p (suc n))) [ true ↦ refl | false ↦ refl ]
    ∙ ap (λ b. b || p (suc n)) (some_front n p)

shifted : (p : ℕ → Bool) (a i : ℕ) → p (a + 1 + i) ≡ p (a + suc i)
shifted p a i = let e : a + 1 + i ≡ a + suc i = omega arith in ap p e

-- over the numbers a, a + 1 and so on
all_range : (p : ℕ → Bool) (a n : ℕ) → list_all p (range_with_len a n) ≡ for_all n (λ i. p (a + i))
unfolding for_all
all_range p a zero = refl
all_range p a (suc n) =
    let e : a + 0 ≡ a = omega arith in
    ap (λ b. p a && b) (all_range p (a + 1) n ∙ ap (for_all n) (λ j i. shifted p a i j))
    ∙ ap (λ k. p k && for_all n (λ i. p (a + suc i))) (sym e)
    ∙ all_front n (λ i. p (a + i))

some_range : (p : ℕ → Bool) (a n : ℕ) → list_any p (range_with_len a n) ≡ for_some n (λ i. p (a + i))
unfolding for_some
some_range p a zero = refl
some_range p a (suc n) =
    let e : a + 0 ≡ a = omega arith in
    ap (λ b. p a || b) (some_range p (a + 1) n ∙ ap (for_some n) (λ j i. shifted p a i j))
    ∙ ap (λ k. p k || for_some n (λ i. p (a + suc i))) (sym e)
    ∙ some_front n (λ i. p (a + i))

from_zero : (p : ℕ → Bool) (i : ℕ) → p (0 + i) ≡ p i
from_zero p i = let e : 0 + i ≡ i = omega arith in ap p e

module _ {F : Type 0} {g : Mut F (ℕ × Unit {0}) Bool} {u : Range ℕ} {f : F} (r : Bool) (n : ℕ) (p : ℕ → Bool) where
  pub all_below
      : ChecksAll nat_range_steps g (record { start = 0; end = n }) f r u
      → ((x : ℕ) (b : Bool) (q : F) → Called g f (x, tt) b q → (q ≡ f) × (b ≡ p x)) → r ≡ for_all n p
  all_below ran call =
      all_from_yields_List p u f r ran (YieldsList-from_range 0 n n refl (omega arith)) call ∙ all_range p 0 n ∙ ap (for_all n) (λ j i. from_zero p i j)

  pub any_below
      : ChecksAny nat_range_steps g (record { start = 0; end = n }) f r u
      → ((x : ℕ) (b : Bool) (q : F) → Called g f (x, tt) b q → (q ≡ f) × (b ≡ p x)) → r ≡ for_some n p
  any_below ran call =
      any_from_yields_List p u f r ran (YieldsList-from_range 0 n n refl (omega arith)) call ∙ some_range p 0 n ∙ ap (for_some n) (λ j i. from_zero p i j)

-- the first of the k numbers from a on that passes is i, if it is there or i is the end
first_at : (p : ℕ → Bool) (a k i : ℕ) → a ≤ i → i ≤ a + k → ((j : ℕ) → a ≤ j → j < i → p j ≡ false) → (i < a + k → p i ≡ true) → first p a k ≡ i
unfolding first
first_at p a zero i l h none hit = omega arith
first_at p a (suc k) i l h none hit = elim (ℕ_discrete a i) [
  | yes e ↦ let t : p a ≡ true = ap p e ∙ hit (omega arith) in rw t e
  | no e ↦
      let t : p a ≡ false = none a (omega arith) (omega arith) in
      rw t (first_at p (suc a) k i (omega arith) (omega arith) (λ j m. none j (omega arith)) (λ m. hit (omega arith)))
]

found : (a b : ℕ) (p : ℕ → Bool) (r : Option ℕ) → a ≤ b
    → MatchOption r ((k : ℕ) → a ≤ k → k < b → p k ≡ false) (λ i. (a ≤ i) × (i < b) × (p i ≡ true) × ((k : ℕ) → a ≤ k → k < i → p k ≡ false))
    → unwrap_or r b ≡ first p a (b - a)
found a b p None l h = sym (first_at p a (b - a) b l (omega arith) h (λ k. absurd (omega arith)))
found a b p (Some i) l h = sym (first_at p a (b - a) i h.0 (omega (arith, h.1)) h.3 (λ k. h.2))

pub first_between : {F : Type 0} {g : Mut F (Bor ℕ × Unit {0}) Bool} (u : Range ℕ) {f : F} (r : Option ℕ) (a b : ℕ) (p : ℕ → Bool) → a ≤ b
    → FindsItem nat_range_steps g (record { start = a; end = b }) f r u
    → ((x : ℕ) (b : Bool) (q : F) → CalledAt g f x b q → (q ≡ f) × (b ≡ p x)) → unwrap_or r b ≡ first p a (b - a)
first_between u {f = f} r a b p l ran call =
    found a b p r l (first_from_Range (record { start = a; end = b }) u f r (λ k. p k ≡ true) (λ k. p k ≡ false) ran
    (λ x q k. sym (call x true q k).1) (λ x q k. let (same, gives) = call x false q k in (same, sym gives)))

pub first_below : {F : Type 0} {g : Mut F (Bor ℕ × Unit {0}) Bool} (u : Range ℕ) {f : F} (r : Option ℕ) (n : ℕ) (p : ℕ → Bool)
    → FindsItem nat_range_steps g (record { start = 0; end = n }) f r u
    → ((x : ℕ) (b : Bool) (q : F) → CalledAt g f x b q → (q ≡ f) × (b ≡ p x)) → unwrap_or r n ≡ first p 0 n
first_below u r n p ran call = let e : n - 0 ≡ n = omega arith in first_between u r 0 n p (omega arith) ran call ∙ ap (first p 0) e
