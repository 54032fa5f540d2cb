-- The bit of a state in the set of a proposition, or of its complement.
use Prim.Native.Nat.{ℕ, ◌≤◌, ◌<◌}
use mathlib.Core.Bool.{Bool, true, false}
use mathlib.Core.Path.{◌≡◌}
use Rattle.flc.specs.Sets.{has}
use Rattle.flc.specs.Formula.{Table, mean_atom}
use Rattle.flc.specs.Order.{signed}
use Rattle.flc.proofs.Masks.{has-set_of, has_beyond, set_of_lt}
use Rattle.regular_sets.specs.Views.{label_atom}

module _ (L : Table) (with : Bool) (p s : ℕ) where
  pub label_at : s < L.n → has (mean_atom L (label_atom with p) 0) s ≡ signed with (has (L.label s) p)
  unfolding mean_atom
  label_at h = elim with as (λ d. has (mean_atom L (label_atom d p) 0) s ≡ signed d (has (L.label s) p)) [
    | true ↦ has-set_of L.n _ s h
    | false ↦ has-set_of L.n _ s h
  ]

  pub label_beyond : L.n ≤ s → has (mean_atom L (label_atom with p) 0) s ≡ false
  unfolding mean_atom
  label_beyond h = elim with as (λ d. has (mean_atom L (label_atom d p) 0) s ≡ false) [
    | true ↦ has_beyond L.n _ s (set_of_lt L.n _) h
    | false ↦ has_beyond L.n _ s (set_of_lt L.n _) h
  ]
