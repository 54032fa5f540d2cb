-- Sets as numbers, beyond the laws of flc: one state more, and one left out.
-- By induction on the state: the lowest digit, then the half.
use Prim.Native.Nat.{ℕ, zero, suc, ◌+◌, ◌-◌, ◌*◌, ◌/◌, ◌%◌, ◌^◌, ◌<◌}
use mathlib.Core.Bool.{false}
use mathlib.Core.Path.{◌≡◌, sym, ap, ap₂, ◌∙◌}
use native.Mathlib.Decide.{ℕ_discrete}
use native.Mathlib.Nat.{le_of_suc-le-suc, not-suc-le-zero}
use native.Mathlib.Omega.{arith}
use borrow.Author.Tests.{eq-eqb, ne_eqb, eqb-false}
use lib.Dec.{eqb, eqb-suc-suc}
use lib.Pow.{pow_pos, pow_mono}
use Rattle.flc.specs.Sets.{either, has}
use Rattle.flc.proofs.Masks.{has_zero, has_suc}

-- a set with one state more
pub has_add : (s t x : ℕ) → has x s ≡ false → has (x + 2 ^ s) t ≡ either (eqb t s) (has x t)
unfolding either
has_add zero zero x h =
    let z = eqb-false (x % 2) 1 (sym (has_zero x) ∙ h) in
    has_zero (x + 1) ∙ eq-eqb ((x + 1) % 2) 1 (elim (ℕ_discrete (x % 2) 1) [ yes e ↦ absurd (z e) | no e ↦ omega arith ])
has_add zero (suc t) x h =
    let z = eqb-false (x % 2) 1 (sym (has_zero x) ∙ h) in
    let e : (x + 1) / 2 ≡ x / 2 = elim (ℕ_discrete (x % 2) 1) [ yes e ↦ absurd (z e) | no e ↦ omega arith ] in
    rw (ne_eqb (suc t) zero (λ e. omega arith)) (has_suc (x + 1) t ∙ ap (λ y. has y t) e ∙ sym (has_suc x t))
has_add (suc s) zero x h =
    let e : (x + 2 ^ suc s) % 2 ≡ x % 2 = omega arith in
    rw (ne_eqb zero (suc s) (λ e. omega arith)) (has_zero (x + 2 ^ suc s) ∙ ap (λ y. eqb y 1) e ∙ sym (has_zero x))
has_add (suc s) (suc t) x h =
    let e : (x + 2 ^ suc s) / 2 ≡ x / 2 + 2 ^ s = omega arith in
    has_suc (x + 2 ^ suc s) t ∙ ap (λ y. has y t) e ∙ has_add s t (x / 2) (sym (has_suc x s) ∙ h)
    ∙ ap₂ either (sym (eqb-suc-suc t s)) (sym (has_suc x t))

-- a set of states below s, with all states above s
pub has_gap : (s n y : ℕ) → s < n → y < 2 ^ s → has (2 ^ n - 2 ^ s * 2 + y) s ≡ false
has_gap s zero y l h = absurd (not-suc-le-zero l)
has_gap zero (suc n) y l h = has_zero _ ∙ ne_eqb ((2 ^ suc n - 2 + y) % 2) 1 (λ e. omega (arith, pow_pos n))
has_gap (suc s) (suc n) y l h =
    let e : (2 ^ suc n - 2 ^ suc s * 2 + y) / 2 ≡ 2 ^ n - 2 ^ s * 2 + y / 2 = omega (arith, pow_mono {i = suc s} {j = n} (le_of_suc-le-suc l)) in
    has_suc _ s ∙ ap (λ x. has x s) e ∙ has_gap s n (y / 2) (le_of_suc-le-suc l) (omega arith)
