-- Merging r into k, state by state and step by step: which old state is which new one, and what the moved steps are.
-- Below r a state keeps its number, above r it moves down by one; a moved step is an old one out of a state that stays.
use Prim.Native.Nat.{ℕ, suc, ◌-◌, ◌≤◌, ◌<◌}
use mathlib.Core.Bool.{cond}
use mathlib.Core.List.{List, [], ◌∷◌}
use mathlib.Core.Path.{◌≡◌, refl, sym, ap, ◌∙◌}
use native.Mathlib.Decide.{dec_lt, ℕ_discrete}
use native.Mathlib.Omega.{arith}
use borrow.Author.Tests.{lt-ltb, le-ltb, eq-eqb, ne_eqb}
use lib.Dec.{T, eqb, ltb, eqb→eq, eqb_refl}
use Rattle.flc.specs.Sets.{both}
use Rattle.flc.proofs.Tests.{both_left, both_right, both_mk, either_use, either_left, either_right}
use Rattle.case_model.specs.Case.{listed}
use Rattle.case_model.specs.Kinds.{Triple}
use Rattle.case_model.specs.Merging.{moved, moved_steps}
-- checked first: a slip in merging is told as a false equation there
use Rattle.case_model.proofs.EditExamples as examples
use Rattle.case_model.proofs.DemandExamples as instances

-- the old number of the new state u
unfoldable pub stays : ℕ → ℕ → ℕ
stays r u = cond (ltb u r) u (suc u)

-- ---- numbers
module _ (r u : ℕ) where
  -- below r, and from r on
  pub stays_low : u < r → stays r u ≡ u
  unfolding stays
  stays_low h = rw (lt-ltb u r h)

  pub stays_high : r ≤ u → stays r u ≡ suc u
  unfolding stays
  stays_high h = rw (le-ltb u r h)

  -- r does not stay
  stays_not : stays r u ≡ r → ⊥
  stays_not e = elim (dec_lt u r) [ yes h ↦ omega (arith, stays_low h) | no h ↦ omega (arith, stays_high (omega arith)) ]

  -- what stays is a state of n just if the new number is one of n - 1
  pub stays_lt : (n : ℕ) → r < n → u < n - 1 → stays r u < n
  stays_lt n i j = elim (dec_lt u r) [ yes h ↦ rw (stays_low h) (omega arith) | no h ↦ rw (stays_high (omega arith)) (omega arith) ]

  pub lt_stays : (n : ℕ) → r < n → stays r u < n → u < n - 1
  lt_stays n i j = elim (dec_lt u r) [ yes h ↦ omega arith | no h ↦ omega (arith, stays_high (omega arith)) ]

module _ (k r : ℕ) where
  -- r itself, below r, and above
  pub moved_at : moved k r r ≡ k
  unfolding moved
  moved_at = rw (eq-eqb r r refl)

  moved_low : (s : ℕ) → s < r → moved k r s ≡ s
  unfolding moved
  moved_low s h = rw (ne_eqb s r (λ e. omega arith), le-ltb r s (omega arith))

  moved_high : (s : ℕ) → r < s → moved k r s ≡ s - 1
  unfolding moved
  moved_high s h = rw (ne_eqb s r (λ e. omega arith), lt-ltb r s h)

  -- whatever is removed, a state of n moves to one of n
  pub moved_inside : (n s : ℕ) → k < n → s < n → moved k r s < n
  moved_inside n s h i = elim (dec_lt s r) [
    | yes l ↦ rw (moved_low s l) i
    | no l ↦ elim (ℕ_discrete s r) [ yes e ↦ rw (e, moved_at) h | no e ↦ rw (moved_high s (omega arith)) (omega arith) ]
  ]

  -- a state of n moves to one of n - 1
  pub moved_lt : (n s : ℕ) → k < r → r < n → s < n → moved k r s < n - 1
  moved_lt n s kr rn i = elim (dec_lt s r) [
    | yes h ↦ rw (moved_low s h) (omega arith)
    | no h ↦ elim (ℕ_discrete s r) [ yes e ↦ rw (e, moved_at) (omega arith) | no e ↦ rw (moved_high s (omega arith)) (omega arith) ]
  ]

  -- but for r, the two numberings are one to one
  pub stays_moved : (s : ℕ) → (s ≡ r → ⊥) → stays r (moved k r s) ≡ s
  stays_moved s n = elim (dec_lt s r) [
    | yes h ↦ rw (moved_low s h, stays_low r s h)
    | no h ↦ rw (moved_high s (omega arith), stays_high r (s - 1) (omega arith)) (omega arith)
  ]

  moved_stays : (u : ℕ) → moved k r (stays r u) ≡ u
  moved_stays u = elim (dec_lt u r) [
    | yes h ↦ rw (stays_low r u h, moved_low u h)
    | no h ↦ rw (stays_high r u (omega arith), moved_high (suc u) (omega arith)) (omega arith)
  ]

  -- ---- steps: one that is moved was there, and one that was there is moved
  pub moved_steps_use : (l : List Triple) (u a w : ℕ) → T (listed (moved_steps k r l) u a w) → (t : ℕ) × (moved k r t ≡ w) × T (listed l (stays r u) a t)
  unfolding moved_steps listed
  moved_steps_use [] u a w h = absurd h
  moved_steps_use (x ∷ l) u a w h = elim (ℕ_discrete x.0 r) [
    | yes e ↦ let (t, m, v) = moved_steps_use l u a w (rw (eq-eqb x.0 r e) at h) in (t, m, either_right _ _ v)
    | no n ↦ either_use _ _ (this n) (λ v. let (t, m, v') = moved_steps_use l u a w v in (t, m, either_right _ _ v')) (rw (ne_eqb x.0 r n) at h)
  ]
    where
      this : (x.0 ≡ r → ⊥) → T (both (eqb (moved k r x.0) u) (both (eqb x.1 a) (eqb (moved k r x.2) w)))
          → (t : ℕ) × (moved k r t ≡ w) × T (listed (x ∷ l) (stays r u) a t)
      this n v =
          let s : stays r u ≡ x.0 = ap (stays r) (sym (eqb→eq (moved k r x.0) u (both_left _ _ v))) ∙ stays_moved x.0 n in
          let b = both_right _ _ v in
          (x.2, eqb→eq _ _ (both_right _ _ b), rw s (either_left _ _ (both_mk _ _ (eqb_refl x.0) (both_mk _ _ (both_left _ _ b) (eqb_refl x.2)))))

  pub moved_steps_mk : (l : List Triple) (u a t : ℕ) → T (listed l (stays r u) a t) → T (listed (moved_steps k r l) u a (moved k r t))
  unfolding moved_steps listed
  moved_steps_mk [] u a t h = absurd h
  moved_steps_mk (x ∷ l) u a t h = elim (ℕ_discrete x.0 r) [
    | yes e ↦ rw (eq-eqb x.0 r e)
        (either_use _ _ (λ v. absurd (stays_not r u (sym (eqb→eq x.0 (stays r u) (both_left _ _ v)) ∙ e))) (moved_steps_mk l u a t) h)
    | no n ↦ rw (ne_eqb x.0 r n) (either_use _ _ this (λ v. either_right _ _ (moved_steps_mk l u a t v)) h)
  ]
    where
      this : T (both (eqb x.0 (stays r u)) (both (eqb x.1 a) (eqb x.2 t)))
          → T (listed ((moved k r x.0, x.1, moved k r x.2) ∷ moved_steps k r l) u a (moved k r t))
      this v =
          let b = both_right _ _ v in
          let p : moved k r x.0 ≡ u = ap (moved k r) (eqb→eq x.0 (stays r u) (both_left _ _ v)) ∙ moved_stays u in
          let q : x.2 ≡ t = eqb→eq _ _ (both_right _ _ b) in
          either_left _ _ (both_mk _ _ (rw p (eqb_refl u)) (both_mk _ _ (both_left _ _ b) (rw q (eqb_refl (moved k r t)))))
