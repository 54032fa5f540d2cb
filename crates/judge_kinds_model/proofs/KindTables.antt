-- Tables of kinds: each byte below the table's length stands for one kind and each kind has one byte, so that the inverse undoes the table.
use Prim.Native.Nat.{ℕ, zero, suc, ◌≤◌, ◌<◌}
use mathlib.Core.Bool.{true}
use mathlib.Core.List.{List, [], ◌∷◌}
use mathlib.Core.Path.{◌≡◌, refl, sym, ◌∙◌, subst}
use native.Mathlib.Decide.{dec_lt}
use native.Mathlib.Nat.{not-suc-le-zero, le_of_suc-le-suc}
use native.Mathlib.Omega.{arith}
use borrow.Author.Tests.{eq-eqb}
use lib.Dec.{T, eqb, eqb→eq}
use lib.ListN.{length, get_or, get_or-eq_default}
use Rattle.flc.specs.Sets.{first}
use Rattle.flc.specs.Permutations.{times}
use Rattle.flc.proofs.Tests.{first_passes, first_least}
use Rattle.flc.proofs.Permutations.{times_place, times-at, times_once, each_named, named-length, named_once, named_small}
use Rattle.case_model.specs.Bytes.{list_of, byte_at}
use Rattle.case_model.specs.Kinds.{kinds}
use Rattle.case_model.proofs.Lists.{length-list_of, get_or-list_of}
use Rattle.judge_kinds_model.specs.KindTables.{is_table, stands_for, identity, inverse}
-- checked first: a slip in a definition is told as a false equation there
use Rattle.judge_kinds_model.proofs.Examples as examples

-- an element that is there does not depend on the default
pub get_or_there : {A : Type 0} (l : List A) (k : ℕ) (d e : A) → k < length l → get_or l k d ≡ get_or l k e
get_or_there [] k d e h = absurd (not-suc-le-zero h)
get_or_there (x ∷ l) zero d e h = refl
get_or_there (x ∷ l) (suc k) d e h = get_or_there l k d e (le_of_suc-le-suc h)

-- ---- any list
module _ (t : List ℕ) (k : ℕ) where
  pub stands_there : k < length t → stands_for t k ≡ byte_at t k
  unfolding stands_for
  stands_there h = get_or_there t k k 0 h

  pub stands_itself : length t ≤ k → stands_for t k ≡ k
  unfolding stands_for
  stands_itself h = get_or-eq_default t k {n = k} h

-- a list made by h: what a byte below its length stands for
stands_made : (n : ℕ) (h : ℕ → ℕ) (k : ℕ) → k < n → stands_for (list_of n h) k ≡ h k
unfolding stands_for
stands_made n h k l = get_or-list_of n h k k l

pub stands_identity : (k : ℕ) → stands_for identity k ≡ k
stands_identity k = elim (dec_lt k (length kinds)) [
  | yes h ↦ stands_made (length kinds) (λ i. i) k h
  | no h ↦ stands_itself identity k (omega (arith, length-list_of (length kinds) (λ i. i)))
]

pub identity-table : is_table identity ≡ true
identity-table =
    let long = length-list_of (length kinds) (λ i. i) in
    each_named (length kinds) identity long (λ i h.
    subst (λ k. 1 ≤ times k identity) (get_or-list_of (length kinds) (λ i. i) 0 i h) (times-at identity i (omega (arith, long))))

-- ---- a table
module _ (t : List ℕ) (ok : is_table t ≡ true) where
  abbrev n : ℕ
  n = length kinds

  long : length t ≡ n
  long = named-length n t ok

  pub table_above : (k : ℕ) → n ≤ k → stands_for t k ≡ k
  table_above k h = stands_itself t k (omega (arith, long))

  table_there : (k : ℕ) → k < n → stands_for t k ≡ byte_at t k
  table_there k h = stands_there t k (omega (arith, long))

  -- the byte that stands for k
  place : ℕ → ℕ
  place k = first (λ i. eqb (byte_at t i) k) 0 n

  placed : (k : ℕ) → k < n → (place k < n) × (byte_at t (place k) ≡ k)
  unfolding place
  placed k h =
      let (i, l, e) = times_place t k (omega (arith, named_once n t ok k h)) in
      let passes : T (eqb (byte_at t i) k) = subst T (sym (eq-eqb (byte_at t i) k e)) tt in
      let found : T (eqb (byte_at t (place k)) k) = first_passes (λ i. eqb (byte_at t i) k) 0 n i (omega arith) (omega (arith, long)) passes in
      let early : place k ≤ i = elim (dec_lt i (place k)) [
        | yes q ↦ absurd (first_least (λ i. eqb (byte_at t i) k) 0 n i (omega arith) q passes)
        | no q ↦ omega arith
      ] in
      (omega (arith, long), eqb→eq _ _ found)

  inverse_long : length (inverse t) ≡ n
  unfolding inverse
  inverse_long = length-list_of n _

  inverse_there : (k : ℕ) → k < n → stands_for (inverse t) k ≡ place k
  unfolding inverse place
  inverse_there k h = stands_made n _ k h

  inverse_above : (k : ℕ) → n ≤ k → stands_for (inverse t) k ≡ k
  inverse_above k h = stands_itself (inverse t) k (omega (arith, inverse_long))

  -- and stands at one place
  place_of : (k : ℕ) → k < n → place (byte_at t k) ≡ k
  place_of k h =
      let small : byte_at t k < n = named_small n t ok k h in
      let (l, e) = placed (byte_at t k) small in
      let once : times (byte_at t (place (byte_at t k))) t ≤ 1 = rw e (omega (arith, named_once n t ok (byte_at t k) small)) in
      times_once t (place (byte_at t k)) k (omega (arith, long)) (omega (arith, long)) e once

  -- ---- there and back
  pub back : (k : ℕ) → stands_for (inverse t) (stands_for t k) ≡ k
  back k = elim (dec_lt k n) [
    | yes h ↦ rw (table_there k h) (inverse_there (byte_at t k) (named_small n t ok k h) ∙ place_of k h)
    | no h ↦ rw (table_above k (omega arith)) (inverse_above k (omega arith))
  ]

  pub forth : (k : ℕ) → stands_for t (stands_for (inverse t) k) ≡ k
  forth k = elim (dec_lt k n) [
    | yes h ↦ let (l, e) = placed k h in rw (inverse_there k h) (table_there (place k) l ∙ e)
    | no h ↦ rw (inverse_above k (omega arith)) (table_above k (omega arith))
  ]

  -- each number stands in the inverse, and so once
  pub inverse-table : is_table (inverse t) ≡ true
  inverse-table = each_named n (inverse t) inverse_long (λ i h.
      let small : byte_at t i < n = named_small n t ok i h in
      let is : byte_at (inverse t) (byte_at t i) ≡ i =
      sym (stands_there (inverse t) (byte_at t i) (omega (arith, inverse_long))) ∙ inverse_there (byte_at t i) small ∙ place_of i h in
      subst (λ k. 1 ≤ times k (inverse t)) is (times-at (inverse t) (byte_at t i) (omega (arith, inverse_long))))
