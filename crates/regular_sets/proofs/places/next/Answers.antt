-- `regular_sets::places::next` meets its contract. The loop's invariant: what the search from i on finds is the answer.
use Prim.Native.Nat.{ℕ, ◌-◌, ◌+◌, ◌*◌}
use mathlib.Core.Bool.{Bool}
use mathlib.Core.List.{List}
use mathlib.Core.Path.{◌≡◌, refl, sym, ap, ◌∙◌}
use native.Mathlib.Omega.{arith}
use borrow.Author.Tests.{le-leb, lt-leb}
use Rattle.flc.specs.Sets.{first}
use Rattle.flc.proofs.Tests.{first_hit, first_miss, first-end}
use Rattle.case_model.specs.Kinds.{Triple}
use Rattle.case_model.specs.Case.{read, at}
use Rattle.regular_model.specs.StepGroups.{key}
use Rattle.regular_sets.proofs.places.next.Goals as goal

pub loop-i-init : goal.loop-i-init
loop-i-init c = (omega (arith, c.requires, c.step_count-count.ensures.is), refl)

-- the number of the step that was read
key-read : (steps : List Triple) (i : ℕ) {t : Triple} → t ≡ at steps i → key steps i ≡ 8 * t.0 + t.1
key-read steps i e = ap (λ (t : Triple). 8 * t.0 + t.1) (sym e)

-- what is asked for is found from i on
answer : (later : ℕ → Bool) (from i : ℕ) {n count : ℕ} → count ≡ n
    → first later from (count - from) ≡ first later i (count - i) → first later from (n - from) ≡ first later i (count - i)
answer later from i e q = ap (λ n. first later from (n - from)) (sym e) ∙ q

pub returns-then-k-x : goal.returns-then-k-x
returns-then-k-x c =
    let k = c.args.k in
    sym (answer _ c.args.from c.loop-i.i c.step_count-count.ensures.is c.loop-i.invariant.1
    ∙ first_hit _ _ _ c.loop-i-test.true (le-leb k _ (omega (arith, key-read (read c.args.file.now).steps c.loop-i.i c.step-x.ensures.is, c.if-k-x.true))))

pub loop-i-preserved : goal.loop-i-preserved
loop-i-preserved c =
    let k = c.args.k in (
      omega arith,
      c.loop-i.invariant.1 ∙ first_miss _ _ _ c.loop-i-test.true (lt-leb k _ (omega (arith, key-read (read c.args.file.now).steps c.loop-i.i c.step-x.ensures.is, c.if-k-x.false))),
    )

pub returns : goal.returns
returns c =
    let e : c.step_count-count.result ≡ c.loop-i.i = omega (arith, c.loop-i-test.false, c.loop-i.invariant.0) in
    e ∙ sym (answer _ c.args.from c.loop-i.i c.step_count-count.ensures.is c.loop-i.invariant.1 ∙ first-end _ _ _ c.loop-i-test.false)
