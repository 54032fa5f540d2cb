-- One run of an area that became a lower one, from what `advance` says of the parts.
use Prim.Native.Nat.{ℕ, ◌+◌, ◌-◌, ◌≤◌, ◌<◌}
use mathlib.Core.Bool.{Bool, false}
use mathlib.Core.List.{List, ◌++◌}
use mathlib.Core.Path.{◌≡◌, sym, ap, ◌∙◌}
use native.Mathlib.Omega.{arith}
use lib.Dec.{eqb}
use lib.ListN.{length, get_or, take, drop}
use lib.Seq.{length-take-le}
use Rattle.std.proofs.Common.{◌↔◌}
use Rattle.std.proofs.lemmas.Bool.{eqb-true, eq-eqb}
use Rattle.std.proofs.lemmas.List.{length-drop, get_or-take, get_or-drop, get_or_default}
use Rattle.case_model.specs.Areas.{from}
use Rattle.areas.specs.Runs.{Same, Advanced}
use Rattle.areas.proofs.Parts.{part_under, filled_part}

module _ (w : List ℕ) {below run above : List ℕ} (b c count : ℕ) (front : below ≡ take c w) (here : run ≡ take count (drop c w))
    (back : above ≡ drop count (drop c w)) (under : b + count ≤ c) (room : c + count ≤ length w) where
  -- the lower run
  abbrev source : List ℕ
  source = take (b + count - b) (drop b below)

  source_long : length source ≡ count
  source_long =
      let k : b + count - b ≡ count = omega arith in
      length-take-le _ (drop b below) (omega (arith, length-drop b below, ap length front, length-take-le c w (omega arith))) ∙ k

  source_at : (x : ℕ) → x < count → get_or source x 0 ≡ from w b x
  source_at x h = get_or-take (b + count - b) (drop b below) x 0 (omega arith) ∙ get_or-drop b below x 0 ∙ part_under w front (b + x) (omega arith)

  run_long : length run ≡ count
  run_long = ap length here ∙ length-take-le count (drop c w) (omega (arith, length-drop c w))

  run_at : (x : ℕ) → x < count → get_or run x 0 ≡ from w c x
  run_at x h = ap (λ l. get_or l x 0) here ∙ get_or-take count (drop c w) x 0 h ∙ get_or-drop c w x 0

  pub advanced : {t : List ℕ} {changed : Bool} → t ≡ source → ((changed ≡ false) ↔ Same eqb run source (length source))
      → Advanced w (below ++ (t ++ above)) b c count changed
  advanced {t} copied (to, from) = record {
    filled = filled_part t front back room (ap length copied ∙ source_long) (λ x h. ap (λ l. get_or l x 0) copied ∙ source_at x h);
    stood = λ e x h. sym (source_at x h) ∙ sym (eqb-true _ _ (to e x 0 (omega (arith, source_long)))) ∙ run_at x h;
    stands = λ e. from (λ k d h.
        let l : k < count = omega (arith, source_long) in
        eq-eqb _ _ (get_or_default run k d 0 (omega (arith, run_long))
        ∙ run_at k l ∙ sym (e k l) ∙ sym (source_at k l) ∙ get_or_default source k 0 d h));
  }
