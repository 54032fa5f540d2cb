-- The pairs of sections, written one by one: the invariant of the loop, one turn, and the end.
-- Pairs of a list and of what follows it: the offset goes on from the lengths before.
use mathlib.Core.List.{List, [], ◌∷◌, ◌++◌}
use mathlib.Core.Path.{◌≡◌, ap, ◌∙◌}
use Prim.Native.Nat.{ℕ, zero, suc, ◌+◌, ◌*◌, ◌≤◌, ◌<◌}
use native.Mathlib.Nat.{add-zero}
use native.Mathlib.Numerals.{add-one}
use native.Mathlib.Omega.{arith}
use lib.ListN.{length, get_or, take}
use lib.Seq.{take-suc, take_all, length-take-le}
use Rattle.case_model.specs.Bytes.{word, pairs}
use Rattle.case_model.proofs.Codec.{length_pairs}
use Rattle.case_writer.specs.Writing.{Writes, total}
use Rattle.case_writer.specs.declared.output.Output.{Output}
use Rattle.case_writer.proofs.Runs.{writes_none, writes_after, writes_as}

pairs-append : (l m : List ℕ) (from : ℕ) → pairs from (l ++ m) ≡ pairs from l ++ pairs (from + total l) m
pairs-append [] m from = rw add-zero
pairs-append (n ∷ l) m from =
    let e : from + n + total l ≡ from + (n + total l) = omega arith in
    ap (λ z. word from ++ (word n ++ z)) (pairs-append l m (from + n) ∙ ap (λ k. pairs (from + n) l ++ pairs k m) e)

total-append : (l m : List ℕ) → total (l ++ m) ≡ total l + total m
total-append [] m = omega arith
total-append (n ∷ l) m = omega (arith, total-append l m)

total-take : (i : ℕ) (l : List ℕ) → total (take i l) ≤ total l
total-take zero l = omega arith
total-take (suc i) [] = omega arith
total-take (suc i) (n ∷ l) = omega (arith, total-take i l)

-- the first i pairs are written; section i begins at `offset`
pub record Pairing (l : List ℕ) (o p : Output) (i offset : ℕ) : Type 0 where
  pub within : i ≤ length l
  pub written : Writes o p (pairs (4 * length l) (take i l))
  pub next : offset ≡ 4 * length l + total (take i l)

pub pairing_none : (l : List ℕ) (o : Output) → Pairing l o o 0 (4 * length l)
pairing_none l o = record { within = omega arith; written = writes_none o; next = omega arith }

module _ {l : List ℕ} {o p : Output} {i offset : ℕ} (k : Pairing l o p i offset) where
  at_is : p.at ≡ o.at + 4 * i
  at_is = omega (arith, k.written.laid.ends, length_pairs (take i l) (4 * length l), length-take-le i l k.within)

  module _ (h : i < length l) where
    more : total (take (suc i) l) ≡ total (take i l) + get_or l i 0
    more = ap total (take-suc l i 0 h) ∙ total-append (take i l) (get_or l i 0 ∷ []) ∙ omega arith

    -- there is room for a pair, and the section ends within the file
    pub pairing_room : (p.at + 4 ≤ o.at + 4 * length l) × (offset + get_or l i 0 ≤ 4 * length l + total l)
    pairing_room = (omega (arith, at_is), omega (arith, k.next, more, total-take (suc i) l))

    pub pairing_turn : {q r : Output} → Writes p q (word offset) → Writes q r (word (get_or l i 0)) → Pairing l o r (i + 1) (offset + get_or l i 0)
    pairing_turn a b = rw (add-one i) (record {
      within = h;
      written =
          writes_as (ap (λ n. pairs (4 * length l) (take i l) ++ (word n ++ word (get_or l i 0))) k.next ∙ grown)
          (writes_after k.written (writes_after a b));
      next = omega (arith, k.next, more);
    })
      where
        grown : pairs (4 * length l) (take i l) ++ pairs (4 * length l + total (take i l)) (get_or l i 0 ∷ []) ≡ pairs (4 * length l) (take (suc i) l)
        grown = rw (take-suc l i 0 h, pairs-append (take i l) (get_or l i 0 ∷ []) (4 * length l))

  pub pairing_all : length l ≤ i → Writes o p (pairs (4 * length l) l)
  pairing_all h = writes_as (ap (pairs (4 * length l)) (take_all i l h)) k.written
