-- The bytes of a set, copied from a place of the work area to the front of the output area.
use Prim.Native.Nat.{ℕ, ◌+◌, ◌-◌, ◌≤◌, ◌<◌}
use mathlib.Core.List.{List, ◌++◌}
use mathlib.Core.Path.{◌≡◌, sym, ap, ◌∙◌}
use native.Mathlib.Omega.{arith}
use lib.ListN.{length, get_or, take, drop}
use lib.Seq.{sets, sets-eq, length-sets}
use Rattle.case_model.specs.Areas.{Laid}
use Rattle.case_model.specs.Bytes.{list_of}
use Rattle.case_model.proofs.Lists.{list_of-part, list_of_ext, length-list_of}
use Rattle.regular_model.specs.SetBytes.{byte_of, set_bytes}
use Rattle.regular_model.specs.HeldSets.{held_at}
use Rattle.regular_model.proofs.SetBytes.{held_byte}

pub set_laid : (w out v : List ℕ) (at : ℕ) → at + 32 ≤ length w → 32 ≤ length out → ((i : ℕ) → get_or w i 0 < 256)
    → v ≡ take (at + 32 - at) (drop at w) → Laid out (v ++ drop 32 out) 0 32 (set_bytes (held_at w at))
unfolding set_bytes
set_laid w out v at inside room small e =
    let l : List ℕ = list_of 32 (byte_of (held_at w at)) in
    let k : at + 32 - at ≡ 32 = omega arith in
    let bytes : v ≡ l =
    e ∙ ap (λ n. take n (drop at w)) k ∙ sym (list_of-part w at 32 0 inside) ∙ list_of_ext 32 _ _ (λ i h. held_byte w at i (small (at + i)) h) in
    let long : length l ≡ 32 = length-list_of 32 (byte_of (held_at w at)) in
    let end : 0 + length l ≡ 32 = omega (arith, long) in
    let is : v ++ drop 32 out ≡ sets out 0 l = rw (bytes, sets-eq l out 0 (omega (arith, long)), end) in
    record { is = is; ends = sym end; long = ap length is ∙ length-sets out 0 l }
