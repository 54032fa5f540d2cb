-- An area that was taken apart: what the parts below and above a run of it hold; and what was filled of the run is filled in the whole.
use Prim.Native.Nat.{ℕ, ◌+◌, ◌-◌, ◌≤◌, ◌<◌}
use mathlib.Core.List.{List, ◌++◌}
use mathlib.Core.Path.{◌≡◌, ap, ◌∙◌}
use native.Mathlib.Omega.{arith}
use lib.ListN.{length, get_or, take, drop, length-append}
use lib.Seq.{length-take-le}
use Rattle.std.proofs.lemmas.List.{length-drop, get_or-take, get_or-drop, get_or_append_left, get_or-append_right}
use Rattle.flc.specs.Functions.{Fun}
use Rattle.case_model.specs.Areas.{Filled}

pub part_under : (w : List ℕ) {below : List ℕ} {base : ℕ} → below ≡ take base w → (p : ℕ) → p < base → get_or below p 0 ≡ get_or w p 0
part_under w {base = base} e p h = ap (λ l. get_or l p 0) e ∙ get_or-take base w p 0 h

pub part_over : (w : List ℕ) {above : List ℕ} (base count : ℕ) → above ≡ drop count (drop base w) → (p : ℕ) → get_or above p 0 ≡ get_or w (base + count + p) 0
part_over w base count e p =
    let i : base + (count + p) ≡ base + count + p = omega arith in
    ap (λ l. get_or l p 0) e ∙ get_or-drop count (drop base w) p 0 ∙ get_or-drop base w (count + p) 0 ∙ ap (λ p. get_or w p 0) i

-- `count` entries between them are filled
pub filled_part : (t : List ℕ) {w below above : List ℕ} {base count : ℕ} {f : Fun} → below ≡ take base w → above ≡ drop count (drop base w)
    → base + count ≤ length w → length t ≡ count → ((x : ℕ) → x < count → get_or t x 0 ≡ f x) → Filled w (below ++ (t ++ above)) base count f
filled_part t {w} {below} {above} {base} {count} e q room long h =
    let front : length below ≡ base = ap length e ∙ length-take-le base w (omega arith) in
    record {
      long = omega (arith, front, length-append below (t ++ above), length-append t above, ap length q, length-drop count (drop base w), length-drop base w);
      inside = λ x l.
          let i : base + x - base ≡ x = omega arith in
          get_or-append_right below _ base (base + x) 0 front (omega arith)
          ∙ ap (λ x. get_or (t ++ above) x 0) i ∙ get_or_append_left t _ 0 x (omega arith) ∙ h x l;
      under = λ p l. get_or_append_left below _ 0 p (omega (arith, front)) ∙ part_under w e p l;
      over = λ p l.
          let i : base + count + (p - base - count) ≡ p = omega arith in
          get_or-append_right below _ base p 0 front (omega arith) ∙ get_or-append_right t _ count (p - base) 0 long (omega arith)
          ∙ part_over w base count q (p - base - count) ∙ ap (λ p. get_or w p 0) i;
    }
