-- `bisim::entries::write` meets its contract. The loop's invariant: the bytes below s are written, the others are as they were.
use mathlib.Core.Path.{◌≡◌}
use native.Mathlib.Omega.{arith}
use Rattle.flc.specs.Sets.{first}
use Rattle.flc.proofs.Tests.{first_le}
use Rattle.case_model.specs.Bytes.{list_of}
use Rattle.bisimilarity.specs.Relations.{related}
use Rattle.case_model.proofs.Laying.{laid_none, laid_element}
use Rattle.bisim.proofs.entries.write.Goals as goal

pub loop-s-init : goal.loop-s-init
loop-s-init c = (omega arith, unfold list_of in laid_none _ 0)

pub overflow_cast-out : goal.overflow_cast-out
overflow_cast-out c =
    let s = c.loop-s.s in
    omega (arith, c.lowest.ensures, first_le (related c.args.rows.now s) 0 s, c.requires.0)

pub loop-s-smaller : goal.loop-s-smaller
loop-s-smaller c = omega arith

pub loop-s-preserved : goal.loop-s-preserved
loop-s-preserved c =
    let rows = c.args.rows.now in
    let s = c.loop-s.s in
    (omega arith, laid_element (λ u. first (related rows u) 0 u) s c.loop-s.invariant.1 c.lowest.ensures)

pub shape_of-out : goal.shape_of-out
shape_of-out c = c.loop-s.invariant.1.long

pub returns : goal.returns
returns c =
    let e : c.loop-s.s ≡ c.args.n = omega arith in
    rw (← e) c.loop-s.invariant.1
