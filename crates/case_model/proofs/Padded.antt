-- A valid case can be padded: for any three gaps of at most three bytes there is a file, and it has the sections of the packed one.
-- Its bytes behind the head are sections and gaps, joined; each stands where the pairs say.
use Prim.Native.Nat.{ℕ, zero, suc, ◌+◌, ◌-◌, ◌*◌, ◌≤◌, ◌<◌}
use mathlib.Core.Bool.{true}
use mathlib.Core.List.{List, [], ◌∷◌, ◌++◌}
use mathlib.Core.Path.{◌≡◌, refl, sym, ap, ◌∙◌, subst}
use native.Mathlib.Omega.{arith}
use borrow.Author.Tests.{eq-eqb, le-leb}
use lib.ListN.{length, get_or, replicate, length-append, length-replicate, get_or-replicate}
use lib.Seq.{get_or-append-add}
use Rattle.flc.proofs.Tests.{for_all_mk}
use Rattle.case_model.specs.Limits.{sections, most_padding, standard}
use Rattle.case_model.specs.Bytes.{list_of, byte_at, offset, size, end, padding, chained, pairs_hold, section, word, joined}
use Rattle.case_model.specs.Case.{Case, parts, write}
use Rattle.case_model.specs.Padding.{Padded}
use Rattle.case_model.specs.Valid.{Valid}
use Rattle.case_model.proofs.Tests.{is_true}
use Rattle.case_model.proofs.Lists.{list_of_ext, list_of-get_or}
use Rattle.case_model.proofs.Codec.{word_back, start, joined_at, length-packed, packed-section}
use Rattle.case_model.proofs.Accepting.{write_short, write-holds}

module _ (c : Case) (a b d : ℕ) where
  abbrev part : ℕ → List ℕ
  part k = get_or (parts c) k []

  -- where sections 1, 2 and 3 begin
  abbrev first : ℕ
  first = 16 + length (part 0) + a

  abbrev second : ℕ
  second = first + length (part 1) + b

  abbrev third : ℕ
  third = second + length (part 2) + d

  -- what stands behind the head
  abbrev body : List (List ℕ)
  body = part 0 ∷ replicate a 0 ∷ part 1 ∷ replicate b 0 ∷ part 2 ∷ replicate d 0 ∷ part 3 ∷ []

  abbrev pair : ℕ → ℕ → List ℕ
  pair at k = word at ++ word (length (part k))

  abbrev head : List ℕ
  head = pair 16 0 ++ (pair first 1 ++ (pair second 2 ++ pair third 3))

  file : List ℕ
  file = head ++ joined body

  -- byte x of section or gap j
  byte : (j x : ℕ) → x < length (get_or body j []) → byte_at file (16 + (start 0 body j + x)) ≡ get_or (get_or body j []) x 0
  unfolding file
  byte j x h = get_or-append-add head (joined body) (start 0 body j + x) 0 ∙ joined_at body j x h

  is_section : (k j : ℕ) (s : List ℕ) → get_or body j [] ≡ s → size file k ≡ length s → offset file k ≡ 16 + start 0 body j → section file k ≡ s
  unfolding section
  is_section k j s e m o =
      ap (λ n. list_of n (λ i. byte_at file (offset file k + i))) m
      ∙ list_of_ext (length s) _ (λ i. get_or s i 0) (λ x l.
      let q : offset file k + x ≡ 16 + (start 0 body j + x) = omega arith in
      ap (byte_at file) q ∙ byte j x (subst (λ s. x < length s) (sym e) l) ∙ ap (λ s. get_or s x 0) e)
      ∙ list_of-get_or s 0

  is_padding : (j n from to : ℕ) → get_or body j [] ≡ replicate n 0 → n ≤ most_padding → from ≡ 16 + start 0 body j → to ≡ from + n → padding file from to ≡ true
  unfolding padding
  is_padding j n from to e few o q =
      let m : to - from ≡ n = omega arith in
      rw (le-leb from to (omega arith), m, le-leb n most_padding few) (is_true _ (for_all_mk n _ (λ i l.
      let at : from + i ≡ 16 + (start 0 body j + i) = omega arith in
      let r : byte_at file (from + i) ≡ 0 =
      ap (byte_at file) at ∙ byte j i (subst (λ s. i < length s) (sym e) (omega (arith, length-replicate {A = ℕ} n 0))) ∙ ap (λ s. get_or s i 0) e
      ∙ get_or-replicate n i 0 0 l in
      rw r tt)))

  -- what the pairs say
  pairs_say : (offset file 0 ≡ 16) × (offset file 1 ≡ first) × (offset file 2 ≡ second) × (offset file 3 ≡ third)
      × (size file 0 ≡ length (part 0)) × (size file 1 ≡ length (part 1)) × (size file 2 ≡ length (part 2)) × (size file 3 ≡ length (part 3))
  unfolding file
  pairs_say = (
    refl,
    word_back first,
    word_back second,
    word_back third,
    word_back (length (part 0)),
    word_back (length (part 1)),
    word_back (length (part 2)),
    word_back (length (part 3)),
  )

  -- where each section and gap begins behind the head
  starts-at : (start 0 body 1 ≡ length (part 0)) × (16 + start 0 body 2 ≡ first) × (16 + start 0 body 3 ≡ first + length (part 1))
      × (16 + start 0 body 4 ≡ second) × (16 + start 0 body 5 ≡ second + length (part 2)) × (16 + start 0 body 6 ≡ third)
      × (length file ≡ third + length (part 3))
  unfolding file
  starts-at = (
    simp (length-append, length-replicate) (omega arith),
    simp (length-append, length-replicate) (omega arith),
    simp (length-append, length-replicate) (omega arith),
    simp (length-append, length-replicate) (omega arith),
    simp (length-append, length-replicate) (omega arith),
    simp (length-append, length-replicate) (omega arith),
    simp (length-append, length-replicate) (omega arith),
  )

  sections_are : (k : ℕ) → k < sections → section file k ≡ part k
  sections_are zero h = is_section 0 0 (part 0) refl pairs_say.4 (omega (arith, pairs_say.0))
  sections_are (suc zero) h = is_section 1 2 (part 1) refl pairs_say.5 (omega (arith, pairs_say.1, starts-at.1))
  sections_are (suc (suc zero)) h = is_section 2 4 (part 2) refl pairs_say.6 (omega (arith, pairs_say.2, starts-at.3))
  sections_are (suc (suc (suc zero))) h = is_section 3 6 (part 3) refl pairs_say.7 (omega (arith, pairs_say.3, starts-at.5))
  sections_are (suc (suc (suc (suc k)))) h = absurd (omega arith)

  module _ (valid : Valid standard c) (few-a : a ≤ most_padding) (few-b : b ≤ most_padding) (few-d : d ≤ most_padding) where
    holds : pairs_hold standard file ≡ true
    unfolding pairs_hold chained write
    holds =
        let (o0, o1, o2, o3, n0, n1, n2, n3) = pairs_say in
        let (b1, b2, b3, b4, b5, b6, all) = starts-at in
        let packed : length (write c) ≡ 16 + length (part 0) + length (part 1) + length (part 2) + length (part 3) =
        simp (length-packed, length-append) (omega arith) in
        rw (
          le-leb (4 * sections) (length file) (omega arith),
          le-leb (length file) standard.longest (omega (arith, packed, write_short c valid)),
          eq-eqb (offset file 0) (4 * sections) o0,
          is_padding 1 a (end file 0) (offset file 1) refl few-a (omega arith) (omega arith),
          is_padding 3 b (end file 1) (offset file 2) refl few-b (omega arith) (omega arith),
          is_padding 5 d (end file 2) (offset file 3) refl few-d (omega arith) (omega arith),
        )
        (eq-eqb (end file 3) (length file) (omega arith))

    pub any_padding : Padded c a b d
    unfolding write
    any_padding =
        let (o0, o1, o2, o3, n0, n1, n2, n3) = pairs_say in
        record {
          file = file;
          aside = record { one = holds; other = write-holds c valid; same = λ k h. sections_are k h ∙ sym (packed-section (parts c) k h) };
          first = omega arith;
          second = omega arith;
          third = omega arith;
        }
