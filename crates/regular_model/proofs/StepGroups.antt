-- A modality by the steps that stand together: the steps of a state by an action are between two places of the list, which rises.
-- ⟨g⟩ has a state just if some of its steps by an action of g leads into the set, [g] just if none leads out of it.
use mathlib.Core.Path.{◌≡◌, refl, sym, ap, ◌∙◌, subst}
use mathlib.Core.Bool.{Bool, true, false, ◌&&◌, ◌||◌, not, cond}
use mathlib.Core.List.{List, [], ◌∷◌}
use Prim.Native.Nat.{ℕ, zero, suc, ◌+◌, ◌*◌, ◌-◌, ◌≤◌, ◌<◌, zero-le}
use native.Mathlib.Decide.{dec_lt, le_ind}
use native.Mathlib.Nat.{le_of_suc-le-suc, not-suc-le-zero}
use native.Mathlib.Numerals.{add-one}
use native.Mathlib.Omega.{arith}
use borrow.Author.Tests.{ltb-true, eqb-true, leb-true, le-leb, lt-leb}
use lib.Dec.{T, eqb, leb, ltb, eqb→eq, eqb_refl, T_not, not_T}
use lib.ListN.{length}
use Rattle.flc.specs.Sets.{both, for_some, among, first, has}
use Rattle.flc.specs.Formula.{modal, actions, steps_by, mean_atom}
use Rattle.flc.specs.Order.{signed}
use Rattle.flc.proofs.Tests.{bool_ext, both_left, both_right, both_mk, either_left, either_right, implies_use, implies_mk, for_all_use, for_all_mk}
use Rattle.flc.proofs.Tests.{for_some_use, for_some_mk, first_le, first_least, first_zero, first_miss}
use Rattle.flc.proofs.Masks.{has-set_of}
use Rattle.case_model.specs.Kinds.{Triple}
use Rattle.case_model.specs.Case.{Case, at, listed, table}
use Rattle.case_model.specs.Rows.{rises, step_fits}
use Rattle.case_model.specs.Valid.{ValidTable}
use Rattle.case_model.proofs.Tests.{is_true, and_l, and_r}
use Rattle.case_model.proofs.Order.{order_next}
use Rattle.case_model.proofs.Steps.{listed_at, step_in}
use Rattle.regular_model.specs.StepGroups.{key, group_at, hits, hits_by}
use Rattle.regular_model.proofs.Examples as examples

-- step i leads from s by the action a to a state that passes
abbrev leads : List Triple → ℕ → (ℕ → Bool) → ℕ → ℕ → Bool
leads l a p s i = both (eqb (at l i).0 s) (both (eqb (at l i).1 a) (p (at l i).2))

-- the step at a place is listed
at_listed : (l : List Triple) (i : ℕ) → i < length l → T (listed l (at l i).0 (at l i).1 (at l i).2)
unfolding listed
at_listed [] i h = absurd (not-suc-le-zero h)
at_listed (x ∷ l) zero h = either_left _ _ (both_mk _ _ (eqb_refl x.0) (both_mk _ _ (eqb_refl x.1) (eqb_refl x.2)))
at_listed (x ∷ l) (suc i) h = either_right _ _ (at_listed l i (le_of_suc-le-suc h))

module _ (l : List Triple) (n : ℕ) (within : (i : ℕ) → i < length l → (at l i).2 < n) (a s : ℕ) where
  -- some listed step to a state that passes: some place in the list that leads there
  some_leads : (p : ℕ → Bool) → for_some n (λ t. both (listed l s a t) (p t)) ≡ for_some (length l) (leads l a p s)
  some_leads p = bool_ext _ _
      (λ h.
      let (t, k, u) = for_some_use n _ h in
      let (i, j, e) = listed_at l s a t (both_left _ _ u) in
      for_some_mk (length l) _ i j (both_mk _ _ (subst (λ (x : Triple). T (eqb x.0 s)) (sym e) (eqb_refl s))
      (both_mk _ _ (subst (λ (x : Triple). T (eqb x.1 a)) (sym e) (eqb_refl a)) (subst (λ (x : Triple). T (p x.2)) (sym e) (both_right _ _ u)))))
      (λ h.
      let (i, j, u) = for_some_use (length l) _ h in
      let q : (at l i).0 ≡ s = eqb→eq _ _ (both_left _ _ u) in
      let r : (at l i).1 ≡ a = eqb→eq _ _ (both_left _ _ (both_right _ _ u)) in
      for_some_mk n _ (at l i).2 (within i j) (both_mk _ _
      (subst (λ s. T (listed l s a (at l i).2)) q (subst (λ a. T (listed l (at l i).0 a (at l i).2)) r (at_listed l i j)))
      (both_right _ _ (both_right _ _ u))))

-- ---- places
-- a search that ends before its end has found something
found : (p : ℕ → Bool) (i k : ℕ) → first p i k < i + k → T (p (first p i k))
unfolding first
found p i zero h = absurd (omega arith)
found p i (suc k) h =
    elim (p i) as (λ b. (T b → T (p i)) → cond b i (first p (suc i) k) < i + suc k → T (p (cond b i (first p (suc i) k)))) [
      | true ↦ λ f h. f tt
      | false ↦ λ f h. found p (suc i) k (omega arith)
    ] (λ t. t) h

-- a search may skip what does not pass
first_skip : (p : ℕ → Bool) (i m j : ℕ) → i ≤ j → j ≤ m → ((q : ℕ) → i ≤ q → q < j → p q ≡ false) → first p i (m - i) ≡ first p j (m - j)
first_skip p i m j h = le_ind (λ j. j ≤ m → ((q : ℕ) → i ≤ q → q < j → p q ≡ false) → first p i (m - i) ≡ first p j (m - j)) (λ l f. refl)
    (λ j k g l f. g (omega arith) (λ q a b. f q a (omega arith)) ∙ (rw add-one at (first_miss p j m l (f j k (omega arith))))) j h

or_use : {P : Type 0} (a b : Bool) → (a || b) ≡ true → (a ≡ true → P) → (b ≡ true → P) → P
or_use true b e f g = f refl
or_use false b e f g = g e

module _ (l : List Triple) (acts : (i : ℕ) → i < length l → (at l i).1 < 8) (rising : (i : ℕ) → suc i < length l → rises (at l i) (at l (suc i)) ≡ true) where
  -- numbers never fall
  key_next : (i : ℕ) → suc i < length l → key l i ≤ key l (suc i)
  key_next i h =
      let x : Triple = at l i in
      let y : Triple = at l (suc i) in
      let a : x.1 < 8 = acts i (omega arith) in
      or_use (ltb x.0 y.0) (eqb x.0 y.0 && (ltb x.1 y.1 || (eqb x.1 y.1 && ltb x.2 y.2))) (rising i h)
      (λ t. omega (arith, ltb-true x.0 y.0 t))
      (λ t. or_use (ltb x.1 y.1) (eqb x.1 y.1 && ltb x.2 y.2) (search and_r)
      (λ u. let p = eqb-true x.0 y.0 (search and_l) in omega (arith, ltb-true x.1 y.1 u))
      (λ u. let p = eqb-true x.0 y.0 (search and_l) in let q = eqb-true x.1 y.1 (search and_l) in omega arith))

  key-rises : (i j : ℕ) → i ≤ j → j < length l → key l i ≤ key l j
  key-rises i j h = le_ind (λ j. j < length l → key l i ≤ key l j) (λ q. omega arith) (λ j k f q. omega (arith, f (omega arith), key_next j q)) j h

  -- a place is in the group of its number, and the others there have the same
  group_low : (i k : ℕ) → k ≤ key l i → group_at l k ≤ i
  unfolding group_at
  group_low i k h = elim (dec_lt i (group_at l k)) [
    | yes q ↦ absurd (first_least (λ i. leb k (key l i)) 0 (length l) i zero-le q (rw (le-leb k (key l i) h) tt))
    | no q ↦ omega arith
  ]

  group_least : (i k : ℕ) → group_at l k ≤ i → i < length l → k ≤ key l i
  unfolding group_at
  group_least i k h q =
      let f : ℕ = group_at l k in
      omega (arith, key-rises f i h q, leb-true k (key l f) (is_true _ (found (λ i. leb k (key l i)) 0 (length l) (omega arith))))

  group_high : (i k : ℕ) → key l i < k → i < length l → i < group_at l k
  group_high i k h q = elim (dec_lt i (group_at l k)) [ yes z ↦ z | no z ↦ absurd (omega (arith, group_least i k (omega arith) q)) ]

  group_under : (i k : ℕ) → i < group_at l k → key l i < k
  group_under i k q = elim (dec_lt (key l i) k) [ yes z ↦ z | no z ↦ absurd (omega (arith, group_low i k (omega arith))) ]

  group_end : (k : ℕ) → group_at l k ≤ length l
  unfolding group_at
  group_end k = omega (arith, first_le (λ i. leb k (key l i)) 0 (length l))

  -- the search for the next group may begin where this one does: so one pass finds them all
  group_next : (k : ℕ) → group_at l (suc k) ≡ first (λ i. leb (suc k) (key l i)) (group_at l k) (length l - group_at l k)
  group_next k =
      let p : ℕ → Bool = λ i. leb (suc k) (key l i) in
      let e : group_at l (suc k) ≡ first p 0 (length l - 0) = unfold group_at in first_zero p (length l) in
      e ∙ first_skip p 0 (length l) (group_at l k) zero-le (group_end k) (λ i a q. lt-leb (suc k) (key l i) (omega (arith, group_under i k q)))

  -- so a pass over the group is a pass over all
  group_pass : (a s : ℕ) → a < 8 → (p : ℕ → Bool)
      → for_some (length l) (leads l a p s) ≡ for_some (group_at l (suc (8 * s + a)) - group_at l (8 * s + a)) (λ k. p (at l (group_at l (8 * s + a) + k)).2)
  group_pass a s h p = bool_ext _ _
      (λ t.
      let (i, q, u) = for_some_use (length l) _ t in
      let e : (at l i).0 ≡ s = eqb→eq _ _ (both_left _ _ u) in
      let g : (at l i).1 ≡ a = eqb→eq _ _ (both_left _ _ (both_right _ _ u)) in
      let lo : group_at l (8 * s + a) ≤ i = group_low i (8 * s + a) (omega arith) in
      let hi : i < group_at l (suc (8 * s + a)) = group_high i (suc (8 * s + a)) (omega arith) q in
      let z : i ≡ group_at l (8 * s + a) + (i - group_at l (8 * s + a)) = omega arith in
      for_some_mk _ _ (i - group_at l (8 * s + a)) (omega arith) (subst (λ i. T (p (at l i).2)) z (both_right _ _ (both_right _ _ u))))
      (λ t.
      let (k, q, u) = for_some_use (group_at l (suc (8 * s + a)) - group_at l (8 * s + a)) _ t in
      let i : ℕ = group_at l (8 * s + a) + k in
      let there : i < length l = omega (arith, group_end (suc (8 * s + a))) in
      let lo : 8 * s + a ≤ key l i = group_least i (8 * s + a) (omega arith) there in
      let hi : key l i < suc (8 * s + a) = group_under i (suc (8 * s + a)) (omega arith) in
      let b = acts i there in
      let e : (at l i).0 ≡ s = omega arith in
      let g : (at l i).1 ≡ a = omega arith in
      for_some_mk (length l) _ i there (both_mk _ _ (rw e (eqb_refl s)) (both_mk _ _ (rw g (eqb_refl a)) u)))

-- ---- modalities
-- of the numbers that p holds of, one is found for which q is as the flag says
among-signed : (d : Bool) (n : ℕ) (p q : ℕ → Bool) → among d n p q ≡ signed d (for_some n (λ t. both (p t) (signed d (q t))))
unfolding among
among-signed true n p q = refl
among-signed false n p q = bool_ext _ (not none)
    (λ h. not_T none (λ z.
    let (t, k, u) = for_some_use n _ z in
    T_not (q t) (both_right _ _ u) (implies_use _ _ (for_all_use n _ h t k) (both_left _ _ u))))
    (λ h. for_all_mk n _ (λ t k. implies_mk _ _ (λ u. passes (q t) (λ z. T_not none h (for_some_mk n _ t k (both_mk _ _ u z))))))
  where
    none : Bool
    none = for_some n (λ t. both (p t) (not (q t)))

    passes : (b : Bool) → (T (not b) → ⊥) → T b
    passes true f = tt
    passes false f = f tt

for_some_ext : (n : ℕ) (p q : ℕ → Bool) → ((i : ℕ) → i < n → p i ≡ q i) → for_some n p ≡ for_some n q
for_some_ext n p q e = bool_ext _ _
    (λ h. let (i, k, t) = for_some_use n p h in for_some_mk n q i k (subst T (e i k) t))
    (λ h. let (i, k, t) = for_some_use n q h in for_some_mk n p i k (subst T (sym (e i k)) t))

module _ {most : ℕ} {c : Case} (valid : ValidTable most c) where
  abbrev l : List Triple
  l = c.steps

  acts : (i : ℕ) → i < length l → (at l i).1 < 8
  acts i h = (step_in valid i h).action

  rising : (i : ℕ) → suc i < length l → rises (at l i) (at l (suc i)) ≡ true
  rising i h = order_next (step_fits (length c.labels)) rises (at l) i (valid.steps (suc i) h)

  -- ---- the places of the groups
  pub group_after : (k : ℕ) → group_at c.steps (suc k)
      ≡ first (λ i. leb (suc k) (key c.steps i)) (group_at c.steps k) (length c.steps - group_at c.steps k)
  group_after = group_next l acts rising

  pub group_within : (k : ℕ) → group_at c.steps k ≤ length c.steps
  group_within = group_end l acts rising

  -- ---- a modality by its group
  by_actions : (Q : ℕ → Bool) (g s : ℕ) → for_some (length c.labels) (λ t. both (steps_by (table c) g s t) (Q t))
      ≡ for_some actions (λ a. both (has g a) (for_some (length l) (leads l a Q s)))
  unfolding steps_by table
  by_actions Q g s =
      let into : (a : ℕ) → for_some (length c.labels) (λ t. both (listed l s a t) (Q t)) ≡ for_some (length l) (leads l a Q s) =
      λ a. some_leads l (length c.labels) (λ i h. (step_in valid i h).to) a s Q in
      bool_ext _ _
      (λ h.
      let (t, k, u) = for_some_use (length c.labels) _ h in
      let (a, j, v) = for_some_use actions _ (both_left _ _ u) in
      for_some_mk actions _ a j (both_mk _ _ (both_left _ _ v)
      (subst T (into a) (for_some_mk (length c.labels) _ t k (both_mk _ _ (both_right _ _ v) (both_right _ _ u))))))
      (λ h.
      let (a, j, v) = for_some_use actions _ h in
      let (t, k, u) = for_some_use (length c.labels) _ (subst T (sym (into a)) (both_right _ _ v)) in
      for_some_mk (length c.labels) _ t k (both_mk _ _ (for_some_mk actions _ a j (both_mk _ _ (both_left _ _ v) (both_left _ _ u))) (both_right _ _ u)))

  pub modal_hits : (d : Bool) (g x s : ℕ) → s < length c.labels
      → has (mean_atom (table c) (modal d g) x) s ≡ signed d (hits_by c.steps x d g s actions)
  unfolding mean_atom table hits_by hits
  modal_hits d g x s h =
      has-set_of (length c.labels) _ s h
      ∙ among-signed d (length c.labels) (steps_by (table c) g s) (has x)
      ∙ ap (signed d) (by_actions (λ t. signed d (has x t)) g s ∙ for_some_ext actions _ _ (λ a k.
      ap (both (has g a)) (group_pass l acts rising a s k (λ t. signed d (has x t))
      ∙ ap (λ e. hits c.steps x d (group_at l (8 * s + a)) (group_at l e)) (sym (add-one (8 * s + a))))))
