-- Which bytes are exchanged: those that begin a node, and no others; and how the code comes to them, node by node.
use Prim.Native.Nat.{ℕ, ◌+◌, ◌*◌, ◌/◌, ◌≤◌, ◌<◌}
use mathlib.Core.Bool.{true, false, or-false}
use mathlib.Core.List.{List}
use mathlib.Core.Path.{◌≡◌, refl, sym, ap, ◌∙◌}
use native.Mathlib.Decide.{ℕ_discrete}
use native.Mathlib.Nat.{zero-add}
use native.Mathlib.Numerals.{add-one}
use native.Mathlib.Omega.{arith}
use borrow.Author.Tests.{eq-eqb, ne_eqb}
use lib.Dec.{eqb→eq}
use lib.ListN.{length, get_or, set, length-set, take}
use lib.Seq.{get_or-set_same, get_or-set_other, ext_get_or, get_or-take, length-take-le}
use Rattle.flc.specs.Sets.{either, for_some}
use Rattle.flc.proofs.Tests.{for_some_use, for_some_mk}
use Rattle.case_model.specs.Areas.{Filled}
use Rattle.case_model.specs.Bytes.{list_of, byte_at, offset, size, pairs_hold}
use Rattle.case_model.specs.Limits.{standard}
use Rattle.case_model.proofs.Filling.{front_at}
use Rattle.case_model.proofs.Lists.{length-list_of, get_or-list_of}
use Rattle.case_model.proofs.Tests.{is_true, is_false}
use Rattle.judge_kinds_model.specs.KindTables.{stands_for}
use Rattle.judge_kinds_model.specs.Exchange.{is_kind, exchanged_byte, exchanged}
use Rattle.judge_kinds_model.proofs.Examples as examples

-- ---- which bytes
module _ (f : List ℕ) (m : ℕ) where
  pub kind_byte : (j : ℕ) → j < m → is_kind f m (offset f 2 + 3 * j) ≡ true
  unfolding is_kind
  kind_byte j h =
      let p : ℕ = offset f 2 + 3 * j in
      is_true _ (for_some_mk m _ j h (rw (eq-eqb p p refl) tt))

  pub other_byte : (p : ℕ) → ((j : ℕ) → j < m → p ≡ offset f 2 + 3 * j → ⊥) → is_kind f m p ≡ false
  unfolding is_kind
  other_byte p none = is_false _ (λ t. let (j, h, e) = for_some_use m _ t in none j h (eqb→eq p _ e))

module _ (t f : List ℕ) (m p : ℕ) where
  pub exchanged_kind : is_kind f m p ≡ true → exchanged_byte t f m p ≡ stands_for t (byte_at f p)
  unfolding exchanged_byte
  exchanged_kind e = rw e

  pub exchanged_other : is_kind f m p ≡ false → exchanged_byte t f m p ≡ byte_at f p
  unfolding exchanged_byte
  exchanged_other e = rw e

-- ---- the file
module _ (t f : List ℕ) where
  pub unlaid : pairs_hold standard f ≡ false → exchanged t f ≡ f
  unfolding exchanged
  unlaid e = rw e

  pub laid : pairs_hold standard f ≡ true → exchanged t f ≡ list_of (length f) (exchanged_byte t f (size f 2 / 3))
  unfolding exchanged
  laid e = rw e

  -- ---- in the code: at first no node is exchanged, and then one more a turn
  pub none_yet : (p : ℕ) → byte_at f p ≡ exchanged_byte t f 0 p
  unfolding exchanged_byte is_kind for_some
  none_yet p = refl

  not_last : (m p : ℕ) → (p ≡ offset f 2 + 3 * m → ⊥) → exchanged_byte t f m p ≡ exchanged_byte t f (m + 1) p
  unfolding exchanged_byte is_kind for_some either
  not_last m p none = rw (add-one m, ne_eqb p (offset f 2 + 3 * m) none, or-false (is_kind f m p))

  pub one_more : {w v : List ℕ} {p y : ℕ} (m : ℕ) → Filled w v 0 (length f) (exchanged_byte t f m) → length f ≤ length w → p ≡ offset f 2 + 3 * m → p < length f
      → y ≡ stands_for t (byte_at f p) → Filled w (set v p y) 0 (length f) (exchanged_byte t f (m + 1))
  one_more {w} {v} {p} {y} m s room is h new =
      let stays : (q : ℕ) → (p ≡ q → ⊥) → get_or (set v p y) q 0 ≡ get_or v q 0 = λ q no. get_or-set_other v p q y 0 (λ z. no (sym z)) in
      record {
        long = length-set v p y ∙ s.long;
        inside = λ q l. elim (ℕ_discrete p (0 + q)) [
          | yes e ↦
              let kind : is_kind f (m + 1) (0 + q) ≡ true = rw (sym e, is) (kind_byte f (m + 1) m (omega arith)) in
              rw (sym e) (get_or-set_same v p y 0 (omega (arith, s.long))) ∙ new ∙ ap (λ x. stands_for t (byte_at f x)) (e ∙ zero-add q)
              ∙ sym (exchanged_kind t f (m + 1) q (rw (zero-add q) at kind))
          | no e ↦ stays (0 + q) e ∙ s.inside q l ∙ not_last m q (λ z. e (omega arith))
        ];
        under = λ q l. absurd (omega arith);
        over = λ q l. stays q (λ z. omega arith) ∙ s.over q l;
      }

  -- the front of an area that holds these bytes
  pub front : {w v : List ℕ} → pairs_hold standard f ≡ true → length f ≤ length w → Filled w v 0 (length f) (exchanged_byte t f (size f 2 / 3))
      → take (length f) v ≡ exchanged t f
  front {w} {v} e room s =
      let n : ℕ = length f in
      let h : ℕ → ℕ = exchanged_byte t f (size f 2 / 3) in
      let long : length (take n v) ≡ n = length-take-le n v (omega (arith, s.long)) in
      ext_get_or 0 (take n v) (list_of n h) (long ∙ sym (length-list_of n h))
      (λ i k. let l : i < n = omega (arith, long) in get_or-take n v i 0 l ∙ front_at s i l ∙ sym (get_or-list_of n h 0 i l))
      ∙ sym (laid e)
