-- The start states of the case that merging r into k makes: they are states and rise, and each stands for old ones.
-- They are selected from the states that the old ones move to.
use Prim.Native.Nat.{ℕ, zero, suc, ◌≤◌, ◌<◌, suc-le-suc}
use mathlib.Core.Bool.{Bool, false}
use mathlib.Core.List.{List, [], ◌∷◌, map}
use mathlib.Core.Path.{◌≡◌, refl, sym, ◌∙◌, subst}
use native.Mathlib.Nat.{not-suc-le-zero, le_of_suc-le-suc}
use native.Mathlib.Omega.{arith}
use borrow.Author.Tests.{lt-ltb}
use lib.Dec.{T, ltb, eqb→eq, eqb_refl}
use lib.ListN.{length}
use Rattle.flc.proofs.Tests.{bool_ext, either_use, either_left, either_right, for_all_use, for_all_mk}
use Rattle.case_model.specs.Bytes.{byte_at}
use Rattle.case_model.specs.Limits.{Limits, most_states}
use Rattle.case_model.specs.Case.{Case}
use Rattle.case_model.specs.Merging.{moved, is_in, merge}
use Rattle.case_model.specs.Rows.{start_wrong}
use Rattle.case_model.specs.Run.{every_start}
use Rattle.case_model.specs.Valid.{Valid}
use Rattle.case_model.proofs.Order.{in_order_lem}
use Rattle.case_model.proofs.Selected.{selected_use, selected_mk, selected_next}
use Rattle.case_model.proofs.Starts.{start_in}

-- ---- what is in a list with its elements renumbered
module _ (g : ℕ → ℕ) where
  is_in_use : (l : List ℕ) (s : ℕ) → T (is_in (map g l) s) → (i : ℕ) × (i < length l) × (g (byte_at l i) ≡ s)
  unfolding is_in
  is_in_use [] s h = absurd h
  is_in_use (x ∷ l) s h = either_use _ _
      (λ e. (0, omega arith, eqb→eq (g x) s e))
      (λ t. let (i, k, e) = is_in_use l s t in (suc i, suc-le-suc k, e)) h

  is_in_mk : (l : List ℕ) (i : ℕ) → i < length l → T (is_in (map g l) (g (byte_at l i)))
  unfolding is_in
  is_in_mk [] i h = absurd (not-suc-le-zero h)
  is_in_mk (x ∷ l) zero h = either_left _ _ (eqb_refl (g x))
  is_in_mk (x ∷ l) (suc i) h = either_right _ _ (is_in_mk l i (le_of_suc-le-suc h))

-- ---- the merged case
module _ {most : Limits} {c : Case} (valid : Valid most c) (k r : ℕ) (few : length (merge c k r).labels ≤ most_states)
    (inside : (s : ℕ) → s < length c.labels → moved k r s < length (merge c k r).labels) where
  abbrev new : List ℕ
  new = (merge c k r).starts

  abbrev stands : ℕ → Bool
  stands = is_in (map (moved k r) c.starts)

  -- a new start state stands for an old one
  new_start : (i : ℕ) → i < length new → (j : ℕ) × (j < length c.starts) × (moved k r (byte_at c.starts j) ≡ byte_at new i)
  unfolding merge
  new_start i h =
      let (x, b, t, e) = selected_use stands (λ s. s) 0 most_states i h in
      let (j, l, q) = is_in_use (moved k r) c.starts x t in
      (j, l, q ∙ sym e)

  new_in : (i : ℕ) → i < length new → byte_at new i < length (merge c k r).labels
  new_in i h =
      let (j, l, e) = new_start i h in
      subst (λ s. s < length (merge c k r).labels) e (inside (byte_at c.starts j) (start_in valid j l))

  -- and for each old one there is one
  old_start : (j : ℕ) → j < length c.starts → (i : ℕ) × (i < length new) × (byte_at new i ≡ moved k r (byte_at c.starts j))
  unfolding merge
  old_start j h =
      selected_mk stands (λ s. s) 0 most_states (moved k r (byte_at c.starts j))
      (omega (arith, inside (byte_at c.starts j) (start_in valid j h))) (is_in_mk (moved k r) c.starts j h)

  new_next : (i : ℕ) → suc i < length new → byte_at new i < byte_at new (suc i)
  unfolding merge
  new_next = selected_next stands (λ s. s) (λ s. s) (λ s. refl) 0 most_states

  -- row 4
  pub new_starts_right : (i : ℕ) → i < length new → start_wrong (merge c k r) i ≡ false
  new_starts_right =
      in_order_lem (λ s. ltb s (length (merge c k r).labels)) ltb (byte_at new) (length new)
      (λ i h. lt-ltb (byte_at new i) (length (merge c k r).labels) (new_in i h))
      (λ i h. lt-ltb (byte_at new i) (byte_at new (suc i)) (new_next i h))

  -- what holds of the states just if it does of those that stand for them: it holds of every start state just if it does of every new one
  pub starts-kept : (p q : ℕ → Bool) → ((s : ℕ) → s < length c.labels → p s ≡ q (moved k r s))
      → every_start c p ≡ every_start (merge c k r) q
  unfolding every_start
  starts-kept p q same = bool_ext _ _
      (λ a. for_all_mk (length new) _ (λ i h.
      let (j, l, e) = new_start i h in
      subst (λ s. T (q s)) e (subst T (same (byte_at c.starts j) (start_in valid j l)) (for_all_use (length c.starts) _ a j l))))
      (λ a. for_all_mk (length c.starts) _ (λ j h.
      let (i, l, e) = old_start j h in
      subst T (sym (same (byte_at c.starts j) (start_in valid j h))) (subst (λ s. T (q s)) e (for_all_use (length new) _ a i l))))
