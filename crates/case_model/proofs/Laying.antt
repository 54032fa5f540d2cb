-- Runs laid one after the other in an area, and an area that is laid whole.
-- A run after a run is one run; a store is a run of one.
use mathlib.Core.List.{List, [], ◌∷◌, ◌++◌}
use mathlib.Core.Path.{◌≡◌, refl, sym, ap, ap₂, ◌∙◌, subst}
use Prim.Native.Nat.{ℕ, suc, ◌+◌, ◌≤◌}
use native.Mathlib.Nat.{add-zero}
use native.Mathlib.Numerals.{add-one}
use native.Mathlib.Omega.{arith}
use lib.ListN.{length, set, drop, length-append, length-set}
use lib.Seq.{sets, sets-eq}
use Rattle.case_model.specs.Areas.{Laid}
use Rattle.case_model.specs.Bytes.{list_of}
use Rattle.case_model.proofs.Lists.{list_of_more}

sets_append : (vs us l : List ℕ) (i : ℕ) → sets l i (vs ++ us) ≡ sets (sets l i vs) (i + length vs) us
sets_append [] us l i = rw add-zero
sets_append (a ∷ vs) us l i =
    let e : suc i + length vs ≡ i + suc (length vs) = omega arith in
    sets_append vs us (set l i a) (suc i) ∙ ap (λ k. sets (sets (set l i a) (suc i) vs) k us) e

pub laid_none : (w : List ℕ) (base : ℕ) → Laid w w base base []
laid_none w base = record { is = refl; ends = omega arith; long = refl }

pub laid_after : {w v u : List ℕ} {base mid end : ℕ} {k l : List ℕ} → Laid w v base mid k → Laid v u mid end l → Laid w u base end (k ++ l)
laid_after {w} {base = base} {k = k} {l} a b = record {
  is = b.is ∙ ap₂ (λ z i. sets z i l) a.is a.ends ∙ sym (sets_append k l w base);
  ends = omega (arith, length-append k l);
  long = b.long ∙ a.long;
}

-- a run that begins at the area's start
pub laid_whole : {w v : List ℕ} {end : ℕ} {l : List ℕ} → Laid w v 0 end l → end ≤ length w → v ≡ l ++ drop (length l) w
laid_whole {w} {l = l} a h =
    let z : 0 + length l ≡ length l = omega arith in
    a.is ∙ sets-eq l w 0 (omega arith) ∙ rw z

pub laid_as : {w v : List ℕ} {base end : ℕ} {k l : List ℕ} → k ≡ l → Laid w v base end k → Laid w v base end l
laid_as {w} {v} {base} {end} e a = subst (Laid w v base end) e a

-- one store
pub laid_one : (w : List ℕ) (base x : ℕ) → Laid w (set w base x) base (base + 1) (x ∷ [])
laid_one w base x = record { is = refl; ends = refl; long = length-set w base x }

-- one element more of a run that a function makes
pub laid_element : (h : ℕ → ℕ) {w v : List ℕ} {base at y : ℕ} (i : ℕ) → Laid w v base at (list_of i h) → y ≡ h i
    → Laid w (set v at y) base (at + 1) (list_of (i + 1) h)
laid_element h {v = v} {at = at} i a e = rw (add-one i, list_of_more i h, e) (laid_after a (laid_one v at (h i)))
