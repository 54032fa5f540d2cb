-- The modalities: a group of one action has no other, none has a state past the table, and what a search among the actions finds is the answer.
use Prim.Native.Nat.{ℕ, ◌+◌, ◌-◌, ◌≤◌, ◌<◌}
use mathlib.Core.Bool.{Bool, false}
use mathlib.Core.Path.{◌≡◌, sym, ap, ◌∙◌}
use native.Mathlib.Omega.{arith}
use borrow.Author.Tests.{ne_eqb}
use Rattle.flc.specs.Sets.{for_some, has, singleton}
use Rattle.flc.specs.Order.{signed}
use Rattle.flc.specs.Formula.{Table, modal, mean_atom}
use Rattle.flc.proofs.Masks.{has-single, has_beyond, set_of_lt}
use Rattle.case_model.specs.Case.{read, table}
use Rattle.regular_model.proofs.StepGroups.{modal_hits}
use Rattle.regular_sets.specs.declared.drive.Drive.{Drive}
use Rattle.regular_sets.specs.declared.modal.Modality.{Modality}
use Rattle.regular_sets.specs.Views.{decided}
use Rattle.regular_sets.proofs.Hitting.{hits_among}

-- a group of one action has no other
pub one_spans : (a b : ℕ) → (a ≡ b → ⊥) → has (singleton a) b ≡ false
one_spans a b n = has-single a b ∙ ne_eqb a b n

-- no state is past the table
pub modal_beyond : (L : Table) (d : Bool) (g x s : ℕ) → L.n ≤ s → has (mean_atom L (modal d g) x) s ≡ false
unfolding mean_atom
modal_beyond L d g x s h = has_beyond L.n _ s (set_of_lt L.n _) h

-- what the search finds, up to the flag
module _ (D : Drive) (m : Modality) (x s : ℕ) where
  pub modal_found : s < D.states → {b : Bool} → for_some (m.last - m.first) (λ i. decided (read D.file.now).steps x m.some m.group s (m.first + i)) ≡ b
      → signed m.some b ≡ has (mean_atom (table (read D.file.now)) (modal m.some m.group) x) s
  modal_found h e =
      ap (signed m.some) (sym e ∙ hits_among (read D.file.now).steps x m.some m.group s m.first m.last m.few m.low m.high)
      ∙ sym (modal_hits D.viewed.table m.some m.group x s (omega (arith, h, D.counted)))
