-- What rows 8 and 9, where they passed, say of the plan: its tables fit in the area, and so does the root's word for the set.
use Prim.Native.Nat.{ℕ, ◌+◌, ◌*◌, ◌^◌, ◌≤◌, ◌<◌}
use mathlib.Core.Path.{◌≡◌, ap, ap₂, ◌∙◌}
use native.Mathlib.Omega.{arith}
use lib.ListN.{length}
use Rattle.flc.specs.Formula.{Table}
use Rattle.case_model.specs.Case.{Case, table}
use Rattle.case_plan.specs.Plans.{Plan, Planned}
use Rattle.engine.specs.Asking.{Asked}
use Rattle.engine.proofs.Frames.{apart}

pub asked : {c : Case} {p : Plan} {x words : ℕ} → Planned c p → x < 2 ^ length c.labels
    → 2 * length c.nodes * 2 ^ length c.labels ≤ words → Asked p x words
unfolding table
asked {c} {p} {x} {words} P h l =
    let n : p.states ≡ length c.labels = ap (λ (L : Table). L.n) P.table in
    let e : p.size ≡ 2 ^ length c.labels = P.sound.sized.size ∙ ap (λ n. 2 ^ n) n in
    let m = ap₂ (λ m k. m * k) P.count e in
    record { runnable = record { sound = P.sound; room = omega arith }; inside = omega arith }

pub word_there : {p : Plan} {x words : ℕ} → Asked p x words → p.root * p.size + x < words
word_there {p} A = omega (arith, A.inside, A.runnable.room, apart p.size p.root p.count A.runnable.sound.rule.root)
