-- What an array made from a function of its index holds: what the closure gives at each.
use Prim.Native.Nat.{ℕ, zero, suc, ◌+◌, ◌≤◌, ◌<◌}
use mathlib.Core.List.{List}
use mathlib.Core.Path.{◌≡◌, sym, subst}
use native.Mathlib.Decide.{ℕ_discrete}
use native.Mathlib.Omega.{arith}
use lib.ListN.{get_or}
use denote.Param.Members.{Mut}
use Rattle.std.specs.Array.{IsFromFnResultFrom}
use Rattle.std.specs.Fn.{Called}

module _ {F : Type 0} {g : Mut F (ℕ × Unit {0}) ℕ} (P : ℕ → ℕ → Type 0) {f : F}
    (call : (x y : ℕ) (q : F) → Called g f (x, tt) y q → (q ≡ f) × P x y) (ys : List ℕ) where
  pub made : (n i : ℕ) → IsFromFnResultFrom g f ys i n → (s : ℕ) → i ≤ s → s < i + n → P s (get_or ys s 0)
  made zero i h s l m = absurd (omega arith)
  made (suc n) i (q, y, at, told, rest) s l m = elim (ℕ_discrete s i) [
    | yes e ↦ rw e (subst (P i) (sym (at.1 0)) (call i y q told).1)
    | no e ↦ made n (i + 1) (subst (λ f. IsFromFnResultFrom g f ys (i + 1) n) (call i y q told).0 rest) s (omega arith) (omega arith)
  ]
