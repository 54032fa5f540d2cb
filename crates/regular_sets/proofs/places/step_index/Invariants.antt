-- `regular_sets::places::step_index` meets its contract: the entries below k are there, and the search for the next goes on from the last.
use Prim.Native.Nat.{ℕ, ◌-◌, ◌≤◌}
use mathlib.Core.List.{List}
use mathlib.Core.Path.{◌≡◌}
use lib.Dec.{leb}
use lib.ListN.{length}
use Rattle.flc.specs.Sets.{first}
use Rattle.case_model.specs.Kinds.{Triple}
use Rattle.case_model.specs.Areas.{Filled}
use Rattle.case_model.specs.Case.{read}
use Rattle.regular_model.specs.StepGroups.{key, group_at}
use Rattle.regular_sets.proofs.places.step_index.Given as goal

-- the first place from `from` on whose number is at least k
abbrev pub group_from : List Triple → ℕ → ℕ → ℕ
group_from l from k = first (λ i. leb k (key l i)) from (length l - from)

abbrev pub invariant-loop-k : goal.invariant-loop-k
invariant-loop-k l =
    let steps : List Triple = (read l.file).steps in
    (l.at ≤ length steps) × Filled l.initial.index l.index 0 l.k (group_at steps) × (group_from steps l.at l.k ≡ group_at steps l.k)
