-- Looking for a step that decides, place by place and action by action: one turn of the search from a place on, and its ends; the actions of a group are
-- among those that are looked at.
use Prim.Native.Nat.{ℕ, ◌+◌, ◌-◌, ◌≤◌, ◌<◌}
use mathlib.Core.Bool.{Bool, true, false}
use mathlib.Core.List.{List}
use mathlib.Core.Path.{◌≡◌, sym, subst}
use native.Mathlib.Decide.{ℕ_discrete, dec_lt}
use native.Mathlib.Omega.{arith}
use lib.Dec.{T}
use Rattle.flc.specs.Sets.{for_some, has}
use Rattle.flc.specs.Order.{signed}
use Rattle.flc.proofs.Tests.{bool_ext, both_left, for_some_use, for_some_mk}
use Rattle.case_model.specs.Kinds.{Triple}
use Rattle.case_model.specs.Case.{at}
use Rattle.case_model.proofs.Tests.{is_true}
use Rattle.regular_model.specs.StepGroups.{hits, hits_by}
use Rattle.regular_sets.specs.Views.{decided}

not_T : {b : Bool} → b ≡ false → T b → ⊥
not_T e t = subst T e t

-- ---- a search from i on
module _ (p : ℕ → Bool) (i to : ℕ) where
  moved : (k j : ℕ) → k ≡ j → T (p k) → T (p j)
  moved k j e t = subst (λ k. T (p k)) e t

  pub some_yes : i < to → p i ≡ true → for_some (to - i) (λ k. p (i + k)) ≡ true
  some_yes h e = is_true _ (for_some_mk (to - i) (λ k. p (i + k)) 0 (omega arith) (moved i (i + 0) (omega arith) (subst T (sym e) tt)))

  pub some_on : p i ≡ false → for_some (to - i) (λ k. p (i + k)) ≡ for_some (to - (i + 1)) (λ k. p (i + 1 + k))
  some_on e = bool_ext _ _
      (λ t.
      let (k, h, u) = for_some_use (to - i) (λ k. p (i + k)) t in
      elim (ℕ_discrete k 0) [
        | yes q ↦ absurd (not_T e (moved (i + k) i (omega (arith, q)) u))
        | no q ↦ for_some_mk (to - (i + 1)) (λ k. p (i + 1 + k)) (k - 1) (omega (arith, q)) (moved (i + k) (i + 1 + (k - 1)) (omega (arith, q)) u)
      ])
      (λ t.
      let (k, h, u) = for_some_use (to - (i + 1)) (λ k. p (i + 1 + k)) t in
      for_some_mk (to - i) (λ k. p (i + k)) (k + 1) (omega arith) (moved (i + 1 + k) (i + (k + 1)) (omega arith) u))

  pub some_end : to ≤ i → for_some (to - i) (λ k. p (i + k)) ≡ false
  unfolding for_some
  some_end h = let z : to - i ≡ 0 = omega arith in rw z

-- ---- places
module _ (l : List Triple) (x : ℕ) (d : Bool) (i to : ℕ) where
  abbrev place : ℕ → Bool
  place k = signed d (has x (at l k).2)

  pub hits_yes : i < to → signed d (has x (at l i).2) ≡ true → hits l x d i to ≡ true
  unfolding hits
  hits_yes = some_yes place i to

  pub hits_on : signed d (has x (at l i).2) ≡ false → hits l x d i to ≡ hits l x d (i + 1) to
  unfolding hits
  hits_on = some_on place i to

  pub hits-end : to ≤ i → hits l x d i to ≡ false
  unfolding hits
  hits-end = some_end place i to

-- ---- actions
module _ (l : List Triple) (x : ℕ) (d : Bool) (g s : ℕ) where
  -- looking at the actions from `first` up to `last` is enough if the group has no others
  pub hits_among : (first last : ℕ) → last ≤ 8 → ((a : ℕ) → a < first → has g a ≡ false) → ((a : ℕ) → last ≤ a → a < 8 → has g a ≡ false)
      → for_some (last - first) (λ i. decided l x d g s (first + i)) ≡ hits_by l x d g s 8
  unfolding hits_by
  hits_among first last few low high = bool_ext _ _
      (λ t. let (i, h, u) = for_some_use _ (λ i. decided l x d g s (first + i)) t in for_some_mk 8 (decided l x d g s) (first + i) (omega arith) u)
      (λ t.
      let (a, h, u) = for_some_use 8 (decided l x d g s) t in
      elim (dec_lt a first) [
        | yes q ↦ absurd (not_T (low a q) (both_left _ _ u))
        | no q ↦ elim (dec_lt a last) [
          | yes k ↦
              let e : a ≡ first + (a - first) = omega arith in
              for_some_mk (last - first) (λ i. decided l x d g s (first + i)) (a - first) (omega arith) (subst (λ a. T (decided l x d g s a)) e u)
          | no k ↦ absurd (not_T (high a (omega arith) h) (both_left _ _ u))
        ]
      ])
