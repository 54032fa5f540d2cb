-- `regular_sets::drive::Drive::target` meets its contract: the third byte of step i, which lies in the file.
use Prim.Native.Nat.{◌+◌, ◌*◌}
use mathlib.Core.Path.{◌≡◌, refl, ap, ◌∙◌}
use native.Mathlib.Omega.{arith}
use lib.ListN.{length}
use Rattle.case_model.specs.Kinds.{Triple}
use Rattle.case_model.specs.Bytes.{byte_at, offset}
use Rattle.case_model.specs.Case.{read}
use Rattle.case_reader.proofs.Readers.{triple-found}
use Rattle.regular_sets.proofs.drive.Drive.target.Goals as goal

pub overflow_mul-result : goal.overflow_mul-result
overflow_mul-result c = omega (arith, c.args.self.stepped.few, c.requires)

pub overflow_add-result : goal.overflow_add-result
overflow_add-result c = let S = c.args.self.stepped in omega (arith, S.few, c.requires, S.small)

pub overflow_add-result-2 : goal.overflow_add-result-2
overflow_add-result-2 c = let S = c.args.self.stepped in omega (arith, S.few, c.requires, S.small)

pub bounds-self-self : goal.bounds-self-self
bounds-self-self c = let S = c.args.self.stepped in omega (arith, S.is, S.inside, c.requires)

pub returns : goal.returns
returns c =
    let D = c.args.self in
    let i = c.args.i in
    let e = triple-found D.file.now 1 i {n = length (read D.file.now).steps} refl c.requires in
    let q : D.steps + 3 * i + 2 ≡ offset D.file.now 1 + 3 * i + 2 = omega (arith, D.stepped.is) in
    record { is = ap (byte_at D.file.now) q ∙ ap (λ (t : Triple). t.2) e; small = omega arith }
