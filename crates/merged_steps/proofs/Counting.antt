-- How many numbers are selected is how many bits are 1: of a set, and of the rows of a relation.
-- By induction over the bits of a number, the lowest first, and over the rows.
use Prim.Native.Nat.{ℕ, zero, suc, ◌+◌, ◌*◌, ◌/◌, ◌%◌, ◌^◌, ◌≤◌, ◌<◌}
use mathlib.Core.Bool.{Bool, true, false}
use mathlib.Core.List.{List}
use mathlib.Core.Path.{◌≡◌, refl, sym, ap, ap₂, ◌∙◌, subst}
use native.Mathlib.Nat.{add-zero, add-suc, pow-suc}
use native.Mathlib.Numerals.{add-one}
use native.Mathlib.Omega.{arith}
use lib.Count.{ones, ones_step}
use lib.ListN.{length, get_or, take, length-append}
use lib.Seq.{take_all}
use Rattle.std.specs.List.{sum_by}
use Rattle.std.proofs.lemmas.List.Sums.{sum_by_more}
use Rattle.flc.specs.Sets.{has, bit}
use Rattle.flc.proofs.Masks.{bit-has, has_suc}
use Rattle.case_model.specs.Merging.{chosen, selected, numbered, is_step, in_order}
use Rattle.case_model.proofs.Selected.{selected_ext}
use Rattle.case_reader.specs.StepRows.{relation}
use Rattle.merged_steps.proofs.Relations.{told}

length-chosen : {A : Type 0} (b : Bool) (a : A) → length (chosen b a) ≡ bit b
length-chosen true a = refl
length-chosen false a = refl

module _ {A B : Type 0} (p : ℕ → Bool) (h : ℕ → A) (g : ℕ → B) where
  -- those below m, and the j from m on
  apart : (m j : ℕ) → length (selected (m + j) p h) ≡ length (selected m p h) + length (selected j (λ t. p (m + t)) g)
  unfolding selected
  apart m zero = simp add-zero
  apart m (suc j) = rw add-suc (omega (
    arith,
    length-append (selected (m + j) p h) (chosen (p (m + j)) (h (m + j))),
    length-append (selected j (λ t. p (m + t)) g) (chosen (p (m + j)) (g j)),
    length-chosen (p (m + j)) (h (m + j)),
    length-chosen (p (m + j)) (g j),
    apart m j,
  ))

-- the elements of a set
pub selected-ones : {A : Type 0} (g : ℕ → A) (n x : ℕ) → x < 2 ^ n → length (selected n (has x) g) ≡ ones x
unfolding selected
selected-ones g zero x h =
    let e : x ≡ 0 = omega arith in
    rw e (unfold ones in refl)
selected-ones g (suc n) x h =
    let one : 1 + n ≡ suc n = omega arith in
    let low : length (selected 1 (has x) g) ≡ x % 2 = length-chosen (has x 0) (g 0) ∙ bit-has x 0 ∙ omega arith in
    let rest : length (selected n (λ t. has x (1 + t)) g) ≡ ones (x / 2) =
    ap length (selected_ext n _ (has (x / 2)) g (λ t l. ap (has x) (omega arith) ∙ has_suc x t)) ∙ selected-ones g n (x / 2) (omega (arith, pow-suc 2 n)) in
    subst (λ m. length (selected m (has x) g) ≡ ones x) one (apart (has x) g g 1 n ∙ omega (arith, ones_step x))

-- the steps of a relation
module _ (rows : List ℕ) (fits : (i : ℕ) → get_or rows i 0 < 2 ^ 16) where
  of_rows : (k : ℕ) → k ≤ length rows → length (in_order (16 * k) (relation rows)) ≡ sum_by ones (take k rows)
  unfolding in_order selected
  of_rows zero h = refl
  of_rows (suc k) h =
      let p : ℕ → Bool = is_step (relation rows) in
      let n : 16 * k + 16 ≡ 16 * suc k = omega arith in
      let row : ℕ = get_or rows k 0 in
      let here : length (selected 16 (λ t. p (16 * k + t)) (λ t. t)) ≡ ones row =
      ap length (selected_ext 16 _ (has row) (λ t. t) (λ t l.
      let q : (16 * k + t) / 16 ≡ k = omega arith in
      let r : (16 * k + t) % 16 ≡ t = omega arith in
      sym (told rows (16 * k + t) refl) ∙ ap₂ (λ i j. has (get_or rows i 0) j) q r))
      ∙ selected-ones (λ t. t) 16 row (fits k) in
      let more : sum_by ones (take (suc k) rows) ≡ sum_by ones (take k rows) + ones row = rw (← add-one k) (sum_by_more ones rows k 0 h) in
      subst (λ m. length (selected m p numbered) ≡ sum_by ones (take (suc k) rows)) n
      (apart p numbered (λ t. t) (16 * k) 16 ∙ ap₂ ◌+◌ (of_rows k (omega arith)) here ∙ sym more)

  pub steps_counted : length rows ≡ 128 → sum_by ones rows ≡ length (in_order 2048 (relation rows))
  steps_counted e = sym (of_rows 128 (omega arith) ∙ ap (sum_by ones) (take_all 128 rows (omega arith)))
