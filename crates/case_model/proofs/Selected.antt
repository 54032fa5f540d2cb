-- What is selected from the numbers below n: its elements, their order, and how many there are.
-- By induction over n: what the last number adds stands behind all the rest.
use Prim.Native.Nat.{ℕ, zero, suc, ◌+◌, ◌≤◌, ◌<◌}
use mathlib.Core.Bool.{Bool, true, false}
use mathlib.Core.List.{[], ◌∷◌, ◌++◌}
use mathlib.Core.Path.{◌≡◌, refl, sym, ap, ap₂, ◌∙◌, subst}
use native.Mathlib.Decide.{dec_lt, ℕ_discrete, le_ind}
use native.Mathlib.Nat.{not-suc-le-zero}
use native.Mathlib.Numerals.{add-one}
use native.Mathlib.Omega.{arith}
use lib.Dec.{T}
use lib.ListN.{length, get_or, length-append, get_or-append}
use lib.Seq.{get_or_at}
use Rattle.case_model.specs.Merging.{chosen, selected}

chosen_few : {A : Type 0} (b : Bool) (a : A) → length (chosen b a) ≤ 1
chosen_few true a = omega arith
chosen_few false a = omega arith

-- only the values below n matter
pub selected_ext : {A : Type 0} (n : ℕ) (p q : ℕ → Bool) (h : ℕ → A) → ((x : ℕ) → x < n → p x ≡ q x) → selected n p h ≡ selected n q h
unfolding selected
selected_ext zero p q h e = refl
selected_ext (suc n) p q h e = ap₂ (λ l b. l ++ chosen b (h n)) (selected_ext n p q h (λ x l. e x (omega arith))) (e n (omega arith))

module _ {A : Type 0} (p : ℕ → Bool) (h : ℕ → A) where
  -- ---- how many
  pub selected_more : (n : ℕ) → selected (n + 1) p h ≡ selected n p h ++ chosen (p n) (h n)
  unfolding selected
  selected_more n = rw add-one

  selected_longer : (n : ℕ) → length (selected (n + 1) p h) ≡ length (selected n p h) + length (chosen (p n) (h n))
  selected_longer n = ap length (selected_more n) ∙ length-append (selected n p h) (chosen (p n) (h n))

  pub selected_few : (n : ℕ) → length (selected n p h) ≤ n
  unfolding selected
  selected_few zero = omega arith
  selected_few (suc n) = omega (arith, selected_few n, length-append (selected n p h) (chosen (p n) (h n)), chosen_few (p n) (h n))

  -- there is room for what x adds in the room of all below n
  pub selected_room : (x n : ℕ) → x < n → length (selected x p h) + length (chosen (p x) (h x)) ≤ length (selected n p h)
  unfolding selected
  selected_room x n l = le_ind (λ m. length (selected x p h) + length (chosen (p x) (h x)) ≤ length (selected m p h))
      (omega (arith, length-append (selected x p h) (chosen (p x) (h x))))
      (λ m k e. omega (arith, length-append (selected m p h) (chosen (p m) (h m)))) n l

  -- ---- what is in it, with d past the end
  module _ (d : A) where
    pub selected_use : (n i : ℕ) → i < length (selected n p h) → (x : ℕ) × (x < n) × T (p x) × (get_or (selected n p h) i d ≡ h x)
    unfolding selected
    selected_use zero i l = absurd (not-suc-le-zero l)
    selected_use (suc n) i l = elim (dec_lt i (length (selected n p h))) [
      | yes k ↦
          let (x, b, t, e) = selected_use n i k in
          (x, omega arith, t, get_or-append (selected n p h) _ d i k ∙ e)
      | no k ↦ last (p n) (λ t. t) l k
    ]
      where
        last : (b : Bool) → (T b → T (p n)) → i < length (selected n p h ++ chosen b (h n)) → (i < length (selected n p h) → ⊥)
            → (x : ℕ) × (x < suc n) × T (p x) × (get_or (selected n p h ++ chosen b (h n)) i d ≡ h x)
        last true t l k =
            let e : length (selected n p h) ≡ i = omega (arith, length-append (selected n p h) (h n ∷ [])) in
            (n, omega arith, t tt, get_or_at (selected n p h) (h n) [] d i e)
        last false t l k = absurd (k (omega (arith, length-append (selected n p h) [])))

    pub selected_mk : (n x : ℕ) → x < n → T (p x) → (i : ℕ) × (i < length (selected n p h)) × (get_or (selected n p h) i d ≡ h x)
    unfolding selected
    selected_mk zero x l t = absurd (not-suc-le-zero l)
    selected_mk (suc n) x l t = elim (ℕ_discrete x n) [
      | yes e ↦
          let (i, b, q) = one (p n) (subst (λ z. T (p z)) e t) in
          (i, b, q ∙ ap h (sym e))
      | no e ↦
          let (i, b, q) = selected_mk n x (omega arith) t in
          (i, omega (arith, length-append (selected n p h) (chosen (p n) (h n))), get_or-append (selected n p h) _ d i b ∙ q)
    ]
      where
        one : (b : Bool) → T b → (i : ℕ) × (i < length (selected n p h ++ chosen b (h n))) × (get_or (selected n p h ++ chosen b (h n)) i d ≡ h n)
        one true t = (length (selected n p h), omega (arith, length-append (selected n p h) (h n ∷ [])), get_or_at (selected n p h) (h n) [] d _ refl)
        one false t = absurd t

  -- ---- its order, by numbers of the elements
  module _ (number : A → ℕ) (numbers : (x : ℕ) → number (h x) ≡ x) where
    pub selected_next : (d : A) (n i : ℕ) → suc i < length (selected n p h) → number (get_or (selected n p h) i d) < number (get_or (selected n p h) (suc i) d)
    unfolding selected
    selected_next d zero i l = absurd (not-suc-le-zero l)
    selected_next d (suc n) i l = elim (dec_lt (suc i) (length (selected n p h))) [
      | yes k ↦
          rw (get_or-append (selected n p h) (chosen (p n) (h n)) d i (omega arith), get_or-append (selected n p h) (chosen (p n) (h n)) d (suc i) k)
          (selected_next d n i k)
      | no k ↦
          let j : i < length (selected n p h) = omega (arith, length-append (selected n p h) (chosen (p n) (h n)), chosen_few (p n) (h n)) in
          let (x, b, t, e) = selected_use d n i j in
          rw (get_or-append (selected n p h) (chosen (p n) (h n)) d i j, e, numbers x, last (p n) l k) b
    ]
      where
        last : (b : Bool) → suc i < length (selected n p h ++ chosen b (h n)) → (suc i < length (selected n p h) → ⊥)
            → number (get_or (selected n p h ++ chosen b (h n)) (suc i) d) ≡ n
        last true l k =
            let e : length (selected n p h) ≡ suc i = omega (arith, length-append (selected n p h) (h n ∷ [])) in
            ap number (get_or_at (selected n p h) (h n) [] d (suc i) e) ∙ numbers n
        last false l k = absurd (k (omega (arith, length-append (selected n p h) [])))
