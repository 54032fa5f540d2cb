-- `hoidrul::hoidrul_vet` meets its contract, by cases on vetting's answer.
use Prim.Native.Nat.{ℕ, ◌<◌}
use mathlib.Core.List.{List}
use mathlib.Core.Path.{◌≡◌, refl, sym, subst}
use native.Mathlib.Omega.{arith}
use lib.ListN.{get_or}
use Rattle.std.specs.declared.result.Result.{Result}
use Rattle.case_model.specs.Replies.{vetting}
use Rattle.case_file.specs.Counting.{counts_of}
use Rattle.case_file.specs.EnumNumbers.{vetted_reply}
use Rattle.case_file.specs.declared.reason.Refusal.{Refusal}
use Rattle.case_file.specs.declared.vetting.Counts.{Counts}
use Rattle.hoidrul.specs.Packing.{Fits, Few}
use Rattle.hoidrul.proofs.Words.{vetting-fits}
use Rattle.hoidrul.proofs.hoidrul_vet.Goals as goal

-- vetting's answer fits
fits : (f : List ℕ) (k : ℕ) {v w : Result Counts Refusal} → ((i : ℕ) → get_or f i 0 < 256) → vetted_reply v ≡ vetting f k → v ≡ w → Fits Few (vetted_reply w)
fits f k small e q = subst (λ v. Fits Few (vetted_reply v)) q (subst (Fits Few) (sym e) (vetting-fits f small k))

pub overflow_mul-result : goal.overflow_mul-result
overflow_mul-result c =
    let few : Few (counts_of c.in-Ok.counts) = fits c.args.file.now c.args.section (λ i. omega (arith, c.type_inv.file i)) c.vet.ensures c.in-Ok.is in
    omega (arith, few)

pub overflow_add-result : goal.overflow_add-result
overflow_add-result c =
    let few : Few (counts_of c.in-Ok.counts) = fits c.args.file.now c.args.section (λ i. omega (arith, c.type_inv.file i)) c.vet.ensures c.in-Ok.is in
    omega (arith, few)

pub refused-requires : goal.refused-requires
refused-requires c = fits c.args.file.now c.args.section (λ i. omega (arith, c.type_inv.file i)) c.vet.ensures c.in-Err.is

pub returns-in-Ok : goal.returns-in-Ok
returns-in-Ok c = rw (← c.vet.ensures, c.in-Ok.is) refl

pub returns-in-Err : goal.returns-in-Err
returns-in-Err c = rw (← c.vet.ensures, c.in-Err.is, c.refused.ensures)
