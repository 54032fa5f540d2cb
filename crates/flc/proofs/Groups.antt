-- What the modalities say, over all actions and states: some step of a group leads into the set, or all do. The group of one action is that action's modality.
-- By the tests that they are made of.
use mathlib.Core.Path.{◌≡◌, sym, ap, subst, fun_ext}
use mathlib.Core.Logic.{◌↔◌}
use mathlib.Core.Bool.{Bool, true, false}
use Prim.Native.Nat.{ℕ, ◌<◌}
use lib.Dec.{T, eqb→eq, eqb_refl}
use Rattle.flc.specs.Sets.{among, has, singleton, set_of}
use Rattle.flc.specs.Formula.{Table, actions, modal, steps_by, mean_atom}
use Rattle.flc.specs.Modalities.{Leads}
use Rattle.flc.proofs.Tests.{bool_ext, both_left, both_right, both_mk, implies_use, implies_mk, for_all_use, for_all_mk, for_some_use, for_some_mk}
use Rattle.flc.proofs.Masks.{has-set_of, has-single}

-- the test of one state
leads_iff : (d : Bool) (L : Table) (g x s : ℕ) → T (among d L.n (steps_by L g s) (has x)) ↔ Leads d L g x s
unfolding among steps_by
leads_iff true L g x s = (
  λ u.
      let (t, l, e) = for_some_use L.n _ u in
      let (a, i, h) = for_some_use actions _ (both_left _ _ e) in
      (a, t, i, l, both_left _ _ h, both_right _ _ h, both_right _ _ e),
  λ (a, t, i, l, h, w, r). for_some_mk L.n _ t l (both_mk _ _ (for_some_mk actions _ a i (both_mk _ _ h w)) r),
)
leads_iff false L g x s = (
  λ u a t i l h w. implies_use _ _ (for_all_use L.n _ u t l) (for_some_mk actions _ a i (both_mk _ _ h w)),
  λ f. for_all_mk L.n _ (λ t l. implies_mk _ _ (λ u.
      let (a, i, h) = for_some_use actions _ u in
      f a t i l (both_left _ _ h) (both_right _ _ h))),
)

-- a state is in ⟨g⟩ or in [g] at x exactly if that is so
pub modal_iff : (d : Bool) (L : Table) (g x s : ℕ) → s < L.n → T (has (mean_atom L (modal d g) x) s) ↔ Leads d L g x s
unfolding mean_atom
modal_iff d L g x s k = subst (λ b. T b ↔ Leads d L g x s) (sym (has-set_of L.n _ s k)) (leads_iff d L g x s)

-- the steps of the group of one action
single_steps : (L : Table) (a s t : ℕ) → a < actions → steps_by L (singleton a) s t ≡ L.step s a t
unfolding steps_by
single_steps L a s t i = bool_ext _ _
    (λ u. let (b, k, e) = for_some_use actions _ u in
    subst (λ b. T (L.step s b t)) (sym (eqb→eq a b (subst T (has-single a b) (both_left _ _ e)))) (both_right _ _ e))
    (λ w. for_some_mk actions _ a i (both_mk _ _ (subst T (sym (has-single a a)) (eqb_refl a)) w))

-- so its modality looks at that action alone
pub single_modal : (d : Bool) (L : Table) (a x : ℕ) → a < actions
    → mean_atom L (modal d (singleton a)) x ≡ set_of L.n (λ s. among d L.n (L.step s a) (has x))
unfolding mean_atom
single_modal d L a x i = ap (set_of L.n) (fun_ext λ s. ap (λ p. among d L.n p (has x)) (fun_ext λ t. single_steps L a s t i))
