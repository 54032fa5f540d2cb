-- Lists made by `list_of` from a function on positions: their length, their elements, and when two are equal.
-- By induction over the length; a part of another list, by comparing elements.
use Prim.Native.Nat.{ℕ, zero, suc, ◌+◌, ◌≤◌, ◌<◌, suc-le-suc}
use mathlib.Core.List.{List, [], ◌∷◌, ◌++◌}
use mathlib.Core.Path.{◌≡◌, refl, sym, ap, ◌∙◌}
use native.Mathlib.Omega.{arith}
use native.Mathlib.Nat.{not-suc-le-zero, le_of_suc-le-suc, zero-lt-suc}
use lib.ListN.{length, get_or, replicate, take, drop, length-drop}
use lib.Seq.{get_or-take, get_or-drop, length-take-le}
use Rattle.case_model.specs.Bytes.{list_of}
-- checked first: a slip in a definition is told as a false equation there
use Rattle.case_model.proofs.Examples as examples

module _ {ℓ} {A : Type ℓ} where
  -- as long as was asked
  pub length-list_of : (k : ℕ) (h : ℕ → A) → length (list_of k h) ≡ k
  unfolding list_of
  length-list_of zero h = refl
  length-list_of (suc k) h = ap suc (length-list_of k (λ i. h (suc i)))

  -- the element at a position below the length
  pub get_or-list_of : (k : ℕ) (h : ℕ → A) (d : A) (i : ℕ) → i < k → get_or (list_of k h) i d ≡ h i
  unfolding list_of
  get_or-list_of zero h d i l = absurd (not-suc-le-zero l)
  get_or-list_of (suc k) h d zero l = refl
  get_or-list_of (suc k) h d (suc i) l = get_or-list_of k (λ i. h (suc i)) d i (le_of_suc-le-suc l)

  -- the default from the length on
  pub get_or-list_of-end : (k : ℕ) (h : ℕ → A) (d : A) (i : ℕ) → k ≤ i → get_or (list_of k h) i d ≡ d
  unfolding list_of
  get_or-list_of-end zero h d i l = refl
  get_or-list_of-end (suc k) h d zero l = absurd (not-suc-le-zero l)
  get_or-list_of-end (suc k) h d (suc i) l = get_or-list_of-end k (λ i. h (suc i)) d i (le_of_suc-le-suc l)

  -- a list is made by its own elements
  pub list_of-get_or : (l : List A) (d : A) → list_of (length l) (λ i. get_or l i d) ≡ l
  unfolding list_of
  list_of-get_or [] d = refl
  list_of-get_or (x ∷ l) d = ap (λ r. x ∷ r) (list_of-get_or l d)

  -- only the values below the length matter
  pub list_of_ext : (k : ℕ) (g h : ℕ → A) → ((i : ℕ) → i < k → g i ≡ h i) → list_of k g ≡ list_of k h
  unfolding list_of
  list_of_ext zero g h e = refl
  list_of_ext (suc k) g h e = λ z. e zero (zero-lt-suc k) z ∷ list_of_ext k (λ i. g (suc i)) (λ i. h (suc i)) (λ i l. e (suc i) (suc-le-suc l)) z

  -- the n elements of a list from a on
  pub list_of-part : (l : List A) (a n : ℕ) (d : A) → a + n ≤ length l → list_of n (λ i. get_or l (a + i) d) ≡ take n (drop a l)
  list_of-part l a n d h =
      let e : length (take n (drop a l)) ≡ n = length-take-le n (drop a l) (simp length-drop (omega arith)) in
      list_of_ext n _ (λ i. get_or (take n (drop a l)) i d) (λ i k. sym (get_or-take n (drop a l) i d k ∙ get_or-drop a l i d))
      ∙ ap (λ m. list_of m (λ i. get_or (take n (drop a l)) i d)) (sym e) ∙ list_of-get_or (take n (drop a l)) d

  -- one element more, at the end
  pub list_of_more : (k : ℕ) (h : ℕ → A) → list_of (suc k) h ≡ list_of k h ++ (h k ∷ [])
  unfolding list_of
  list_of_more zero h = refl
  list_of_more (suc k) h = ap (λ l. h zero ∷ l) (list_of_more k (λ i. h (suc i)))

-- a list of zeros
pub zeros : (k i : ℕ) → get_or (replicate k zero) i zero ≡ zero
zeros zero i = refl
zeros (suc k) zero = refl
zeros (suc k) (suc i) = zeros k i
