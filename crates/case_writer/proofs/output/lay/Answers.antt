-- `case_writer::output::lay` meets its contract: after i turns the first i bytes are laid.
use mathlib.Core.List.{List}
use mathlib.Core.Path.{◌≡◌, refl}
use Prim.Native.Nat.{ℕ, ◌+◌}
use native.Mathlib.Omega.{arith}
use lib.ListN.{length, get_or}
use Rattle.case_model.specs.Areas.{Laid}
use Rattle.case_model.specs.Bytes.{list_of}
use Rattle.case_model.proofs.Lists.{list_of-get_or}
use Rattle.case_model.proofs.Laying.{laid_element, laid_as}
use Rattle.case_writer.proofs.output.lay.Goals as goal

laid_start : (h : ℕ → ℕ) (w : List ℕ) (base : ℕ) → Laid w w base (base + 0) (list_of 0 h)
unfolding list_of
laid_start h w base = record { is = refl; ends = refl; long = refl }

pub loop-i-init : goal.loop-i-init
loop-i-init c = (omega arith, laid_start _ _ _)

pub loop-i-preserved : goal.loop-i-preserved
loop-i-preserved c =
    let i = c.loop-i.i in
    let e : c.args.at + (i + 1) ≡ c.args.at + i + 1 = omega arith in
    (omega arith, rw e (laid_element (λ k. get_or c.args.bytes.now k 0) i c.loop-i.invariant.1 refl))

pub returns : goal.returns
returns c =
    let b = c.args.bytes.now in
    let e : c.loop-i.i ≡ length b = omega arith in
    laid_as (list_of-get_or b 0) (rw e at c.loop-i.invariant.1)
