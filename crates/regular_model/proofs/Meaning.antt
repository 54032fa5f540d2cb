-- The meaning of a regular rule is one set, whatever it is taken at, and that set is its value. By induction on the rule:
-- with constant functions for the variables a body gives a constant function, so the approximants of a binder are the iterates of sets;
-- these stand still after n, and where approximants stand still they are the fixed point.
use mathlib.Core.Path.{◌≡◌, refl, sym, ap, ap₂, ◌∙◌}
use mathlib.Core.Bool.{Bool, true, false, cond}
use Prim.Native.Nat.{ℕ, zero, suc, ◌^◌, ◌<◌}
use lib.Dec.{T, eqb}
use Rattle.flc.specs.Sets.{both, either, has, set_of}
use Rattle.flc.specs.Functions.{Fun, approximant}
use Rattle.flc.specs.Formula.{Table, Atom, top, bottom, tau, prop, nprop, modal, or, and}
use Rattle.flc.specs.Formula.{chop, Formula, atom, var, op, fix, mean_atom, Env, put, mean, none}
use Rattle.flc.proofs.Tests.{both_left, both_right}
use Rattle.flc.proofs.Order.{good_agree}
use Rattle.flc.specs.Order.{GoodEnv}
use Rattle.flc.specs.Iterates.{iterate}
use Rattle.flc.proofs.FixedPoints.{iterate_fixed, approx_rising}
use Rattle.flc.proofs.Meanings.{mean_fix, mean_steady}
use Rattle.regular_model.specs.Regular.{constant, is_modality, regular}
use Rattle.regular_model.specs.Values.{begin, given, constant_of, modality_of, value, no_sets}
use Rattle.regular_model.proofs.Iterates.{begin_small, iterated_small}
use Rattle.regular_model.proofs.Values.{Small, no_sets_small, given_small, value_good, fix_fixed}
use Rattle.regular_model.proofs.Examples as examples

-- ---- constant functions

-- the function of each variable is one set everywhere
abbrev pub Flat : ℕ → Env → (ℕ → ℕ) → Type 0
Flat n ρ c = (v x : ℕ) → x < 2 ^ n → ρ v x ≡ c v

flat_good : (n : ℕ) (ρ : Env) (c : ℕ → ℕ) → Small n c → Flat n ρ c → GoodEnv n ρ
flat_good n ρ c C h v = good_agree (ρ v) {g = λ x. c v} (h v) (record { small = λ x i. C v; mono = λ x y i j u s k t. t })

flat-put : (n : ℕ) (ρ : Env) (c : ℕ → ℕ) (v : ℕ) (f : Fun) (s : ℕ) → Flat n ρ c → ((x : ℕ) → x < 2 ^ n → f x ≡ s) → Flat n (put ρ v f) (given c v s)
unfolding put given
flat-put n ρ c v f s h k w x i =
    elim (eqb w v) as (λ b. cond b f (ρ w) x ≡ cond b s (c w)) [ true ↦ k x i | false ↦ h w x i ]

flat-none : (n : ℕ) → Flat n none no_sets
unfolding none no_sets
flat-none n v x i = refl

-- ---- the parts of a regular rule
constant_same : (L : Table) (a : Atom) → T (constant a) → (x : ℕ) → mean_atom L a x ≡ mean_atom L (constant_of a) 0
unfolding mean_atom
constant_same L top t x = refl
constant_same L bottom t x = refl
constant_same L tau t x = absurd t
constant_same L (prop i) t x = refl
constant_same L (nprop i) t x = refl
constant_same L (modal d g) t x = absurd t

modality_same : (L : Table) (p : Formula) → T (is_modality p) → (ρ : Env) (x : ℕ) → mean L p ρ x ≡ mean_atom L (modality_of p) x
unfolding mean
modality_same L (atom top) t ρ x = absurd t
modality_same L (atom bottom) t ρ x = absurd t
modality_same L (atom tau) t ρ x = absurd t
modality_same L (atom (prop i)) t ρ x = absurd t
modality_same L (atom (nprop i)) t ρ x = absurd t
modality_same L (atom (modal d g)) t ρ x = refl
modality_same L (var v) t ρ x = absurd t
modality_same L (op o p q) t ρ x = absurd t
modality_same L (fix d v p) t ρ x = absurd t

-- ---- binders
-- the meaning of p is its value, with any constant functions for the variables
abbrev pub Valued : Table → Formula → Type 0
Valued L p = (ρ : Env) (c : ℕ → ℕ) → Small L.n c → Flat L.n ρ c → (x : ℕ) → x < 2 ^ L.n → mean L p ρ x ≡ value L p c

module _ (L : Table) (d : Bool) (v : ℕ) (p : Formula) (P : Valued L p) (ρ : Env) (c : ℕ → ℕ) (C : Small L.n c) (h : Flat L.n ρ c) where
  abbrev F : Fun → Fun
  F f = mean L p (put ρ v f)

  abbrev G : ℕ → ℕ
  G s = value L p (given c v s)

  -- approximant k is the k-th set, everywhere
  follow : (k x : ℕ) → x < 2 ^ L.n → iterate F (approximant d L.n F zero) k x ≡ iterate G (begin d L.n) k
  unfolding iterate approximant begin
  follow zero x i = refl
  follow (suc k) x i =
      P _ _ (given_small L.n c v _ C (iterated_small (value_good L p v c C) k (begin d L.n) (begin_small d L.n)))
      (flat-put L.n ρ c v _ _ h (follow k)) x i

  fix_valued : (x : ℕ) → x < 2 ^ L.n → mean L (fix d v p) ρ x ≡ value L (fix d v p) c
  unfolding value iterate
  fix_valued x i =
      ap (λ f. f x) (mean_fix L d v p ρ)
      ∙ iterate_fixed d (mean_steady L p v ρ (flat_good L.n ρ c C h)) (approx_rising d) L.n
      (λ x i. follow L.n x i ∙ sym (fix_fixed L d v p c C) ∙ sym (follow (suc L.n) x i)) x i
      ∙ follow L.n x i

-- ---- every regular rule
pub regular-value : (L : Table) (p : Formula) → T (regular p) → (ρ : Env) (c : ℕ → ℕ) → Small L.n c → Flat L.n ρ c
    → (x : ℕ) → x < 2 ^ L.n → mean L p ρ x ≡ value L p c
unfolding regular mean value
regular-value L (atom a) r ρ c C h x i = constant_same L a r x
regular-value L (var v) r ρ c C h x i = h v x i
regular-value L (op or p q) r ρ c C h x i =
    ap₂ (λ a b. set_of L.n (λ s. either (has a s) (has b s)))
    (regular-value L p (both_left _ _ r) ρ c C h x i) (regular-value L q (both_right _ _ r) ρ c C h x i)
regular-value L (op and p q) r ρ c C h x i =
    ap₂ (λ a b. set_of L.n (λ s. both (has a s) (has b s)))
    (regular-value L p (both_left _ _ r) ρ c C h x i) (regular-value L q (both_right _ _ r) ρ c C h x i)
regular-value L (op chop p q) r ρ c C h x i =
    modality_same L p (both_left _ _ r) ρ _ ∙ ap (mean_atom L (modality_of p)) (regular-value L q (both_right _ _ r) ρ c C h x i)
regular-value L (fix d v p) r ρ c C h x i = fix_valued L d v p (regular-value L p r) ρ c C h x i

-- with no free variable, or whatever a root's environment has for them: one set at every x
pub regular_closed : (L : Table) (p : Formula) → T (regular p) → (x : ℕ) → x < 2 ^ L.n → mean L p none x ≡ value L p no_sets
regular_closed L p r = regular-value L p r none no_sets (no_sets_small L.n) (flat-none L.n)
