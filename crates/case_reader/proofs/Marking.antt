-- Rows of masks as a step relation: a step marked, and the steps of a list marked from the last to the first.
-- A mark changes one bit of one row, the step's; a step that has no place there changes nothing.
use Prim.Native.Nat.{ℕ, suc, ◌+◌, ◌*◌, ◌-◌, ◌%◌, ◌^◌, ◌≤◌, ◌<◌}
use mathlib.Core.Bool.{Bool, true, false, ◌&&◌, cond, and_comm, and_assoc}
use mathlib.Core.List.{List, [], ◌∷◌}
use mathlib.Core.Path.{◌≡◌, refl, sym, ap, ap₂, ◌∙◌}
use native.Mathlib.Decide.{ℕ_discrete, dec_lt}
use native.Mathlib.Omega.{arith}
use borrow.Author.Tests.{eq-eqb, lt-ltb, le-ltb}
use lib.Bits.{bit_or, or_lt}
use lib.Dec.{T, eqb, ltb, eqb→eq}
use lib.ListN.{length, get_or, set, drop, replicate, length-set}
use lib.Pow.{pow-lt}
use lib.Seq.{get_or-set_same, get_or-set_other, drop-cons, drop-length}
use Rattle.flc.specs.Sets.{both, either, has}
use Rattle.flc.proofs.Tests.{both_left, both_right}
use Rattle.flc.proofs.Laws.{either_swap}
use Rattle.flc.proofs.Masks.{has_or, has_empty, has-single}
use Rattle.case_model.specs.Kinds.{Triple}
use Rattle.case_model.specs.Case.{at, listed}
use Rattle.case_model.proofs.Tests.{is_false}
use Rattle.case_model.proofs.Lists.{zeros}
use Rattle.case_reader.specs.StepRows.{relation, turned_if, steps_read, row_of, bit_of, marked, StepRows}

-- x is the step (s, a, t)
abbrev is_step : Triple → ℕ → ℕ → ℕ → Bool
is_step x s a t = both (eqb x.0 s) (both (eqb x.1 a) (eqb x.2 t))

record Same (x : Triple) (s a t : ℕ) : Type 0 where
  from : x.0 ≡ s
  action : x.1 ≡ a
  to : x.2 ≡ t

same : (x : Triple) (s a t : ℕ) → T (is_step x s a t) → Same x s a t
same x s a t u = record {
  from = eqb→eq x.0 s (both_left _ _ u);
  action = eqb→eq x.1 a (both_left _ _ (both_right _ _ u));
  to = eqb→eq x.2 t (both_right _ _ (both_right _ _ u));
}

module _ (x : Triple) where
  -- a step that has no place has no bit
  no_bit : (ltb x.0 16 && ltb x.1 8 && ltb x.2 16) ≡ false → bit_of x ≡ 0
  no_bit e = rw e

  pub bit_small : bit_of x < 65536
  bit_small = elim (ltb x.0 16 && ltb x.1 8 && ltb x.2 16) as (λ b. cond b (2 ^ (x.2 % 16)) 0 < 65536) [
    | true ↦ pow-lt {i = x.2 % 16} {j = 16} (omega arith)
    | false ↦ omega arith
  ]

  module _ (s a t : ℕ) (hs : s < 16) (ha : a < 8) (ht : t < 16) where
    outside : ((ltb x.0 16 && ltb x.1 8 && ltb x.2 16) ≡ true → ⊥) → is_step x s a t ≡ false
    outside n = is_false _ (λ u.
        let e = same x s a t u in
        n (rw (lt-ltb x.0 16 (omega (arith, e.from)), lt-ltb x.1 8 (omega (arith, e.action)), lt-ltb x.2 16 (omega (arith, e.to)))))

    -- in the step's row, its bit says which step it is
    in_row : 8 * s + a ≡ row_of x → has (bit_of x) t ≡ is_step x s a t
    unfolding both
    in_row q = elim (dec_lt x.0 16) [
      | no h ↦ none (rw (le-ltb x.0 16 (omega arith)))
      | yes h ↦ elim (dec_lt x.1 8) [
        | no k ↦ none (rw (lt-ltb x.0 16 h, le-ltb x.1 8 (omega arith)))
        | yes k ↦ elim (dec_lt x.2 16) [
          | no l ↦ none (rw (lt-ltb x.0 16 h, lt-ltb x.1 8 k, le-ltb x.2 16 (omega arith)))
          | yes l ↦
              let p0 : x.0 ≡ s = omega arith in
              let p1 : x.1 ≡ a = omega arith in
              let p2 : x.2 % 16 ≡ x.2 = omega arith in
              rw (lt-ltb x.0 16 h, lt-ltb x.1 8 k, lt-ltb x.2 16 l, eq-eqb x.0 s p0, eq-eqb x.1 a p1, p2) (has-single x.2 t)
        ]
      ]
    ]
      where
        none : (ltb x.0 16 && ltb x.1 8 && ltb x.2 16) ≡ false → has (bit_of x) t ≡ is_step x s a t
        none e = ap (λ y. has y t) (no_bit e) ∙ has_empty t ∙ sym (outside (λ z. let w : ◌≡◌ {A = ℕ} 0 1 = cc in omega arith))

    -- in another it is not looked for
    other_row : (8 * s + a ≡ row_of x → ⊥) → is_step x s a t ≡ false
    other_row n = is_false _ (λ u. let e = same x s a t u in n (omega (arith, e.from, e.action)))

-- ---- one step more
module _ {l : List Triple} {rows : List ℕ} (R : StepRows l rows) (x : Triple) where
  abbrev entry : ℕ
  entry = bit_or (get_or rows (row_of x) 0) (bit_of x)

  row_in : row_of x < length rows
  row_in = rw R.long (omega arith)

  more : (s a t : ℕ) → s < 16 → a < 8 → t < 16 → relation (marked rows x) s a t ≡ either (is_step x s a t) (relation rows s a t)
  unfolding relation marked either
  more s a t hs ha ht = elim (ℕ_discrete (8 * s + a) (row_of x)) [
    | yes q ↦
        ap (λ j. has (get_or (set rows (row_of x) entry) j 0) t) q ∙ ap (λ y. has y t) (get_or-set_same rows (row_of x) entry 0 row_in)
        ∙ has_or (get_or rows (row_of x) 0) (bit_of x) t ∙ either_swap (has (get_or rows (row_of x) 0) t) (has (bit_of x) t)
        ∙ ap₂ either (in_row x s a t hs ha ht q) (ap (λ j. has (get_or rows j 0) t) (sym q))
    | no q ↦
        ap (λ y. has y t) (get_or-set_other rows (row_of x) (8 * s + a) entry 0 q)
        ∙ ap (λ b. either b (has (get_or rows (8 * s + a) 0) t)) (sym (other_row x s a t hs ha ht q))
  ]

  pub marks_more : StepRows (x ∷ l) (marked rows x)
  unfolding listed marked
  marks_more = record {
    long = length-set rows (row_of x) entry ∙ R.long;
    small = λ i. elim (ℕ_discrete i (row_of x)) [
      | yes q ↦ rw (q, get_or-set_same rows (row_of x) entry 0 row_in) (or_lt 16 _ _ (R.small (row_of x)) (bit_small x))
      | no q ↦ rw (get_or-set_other rows (row_of x) i entry 0 q) (R.small i)
    ];
    is = λ s a t hs ha ht. more s a t hs ha ht ∙ ap (either (is_step x s a t)) (R.is s a t hs ha ht);
  }

-- ---- the steps of a list, as they are or turned round
module _ (turned : Bool) where
  read_none : steps_read turned [] ≡ []
  read_none = elim turned as (λ b. steps_read b [] ≡ []) [ true ↦ refl | false ↦ refl ]

  read_more : (x : Triple) (l : List Triple) → steps_read turned (x ∷ l) ≡ turned_if turned x ∷ steps_read turned l
  read_more x l = elim turned as (λ b. steps_read b (x ∷ l) ≡ turned_if b x ∷ steps_read b l) [ true ↦ refl | false ↦ refl ]

  pub marks_none : (l : List Triple) → StepRows (steps_read turned (drop (length l) l)) (replicate 128 0)
  unfolding listed relation
  marks_none l = rw (drop-length l, read_none) (record {
    long = refl;
    small = λ i. rw (zeros 128 i) (omega arith);
    is = λ s a t _ _ _. ap (λ y. has y t) (zeros 128 (8 * s + a)) ∙ has_empty t;
  })

  -- from the steps after place i - 1 to those from there on
  pub marks_next : (l : List Triple) (i : ℕ) {rows next : List ℕ} (x : Triple) → StepRows (steps_read turned (drop i l)) rows → 0 < i → i ≤ length l
      → x ≡ turned_if turned (at l (i - 1)) → next ≡ marked rows x → StepRows (steps_read turned (drop (i - 1) l)) next
  marks_next l i {rows} x R h j e q =
      let p : i ≡ suc (i - 1) = omega arith in
      rw (drop-cons l (i - 1) (0, 0, 0) (omega arith), read_more, ← p, q, ← e) (marks_more R x)

-- a step is listed just if it is, turned round
pub listed_turned : (l : List Triple) (s a t : ℕ) → listed (steps_read true l) t a s ≡ listed l s a t
unfolding listed both
listed_turned [] s a t = refl
listed_turned (x ∷ l) s a t =
    let (p, q, r) : Bool × Bool × Bool = (eqb x.2 t, eqb x.1 a, eqb x.0 s) in
    ap₂ either (and_comm p (q && r) ∙ ap (λ b. b && p) (and_comm q r) ∙ and_assoc r q p) (listed_turned l s a t)
