-- `regular_sets::places::next` meets its contract. The loop's invariant: what the search from i on finds is the answer.
use Prim.Native.Nat.{ℕ, ◌-◌, ◌≤◌}
use mathlib.Core.Bool.{Bool}
use mathlib.Core.Path.{◌≡◌}
use lib.Dec.{leb}
use Rattle.flc.specs.Sets.{first}
use Rattle.case_model.specs.Case.{read}
use Rattle.regular_model.specs.StepGroups.{key}
use Rattle.regular_sets.proofs.places.next.Given as goal

abbrev pub invariant-loop-i : goal.invariant-loop-i
invariant-loop-i l =
    let later : ℕ → Bool = λ i. leb l.k (key (read l.file).steps i) in
    (l.i ≤ l.count) × (first later l.from (l.count - l.from) ≡ first later l.i (l.count - l.i))
