-- Runs of bytes written to an output one behind the other are one run.
use mathlib.Core.List.{List, [], ◌++◌}
use mathlib.Core.Path.{◌≡◌, refl, sym, ◌∙◌, subst}
use Prim.Native.Nat.{ℕ}
use native.Mathlib.Omega.{arith}
use lib.ListN.{length}
use Rattle.case_model.specs.Areas.{Laid}
use Rattle.case_model.proofs.Laying.{laid_none, laid_after}
use Rattle.case_writer.specs.Writing.{Writes}
use Rattle.case_writer.specs.declared.output.Output.{Output}

pub writes_none : (o : Output) → Writes o o []
writes_none o = record { same_area = refl; laid = laid_none o.area.now o.at }

pub writes_after : {o p q : Output} {k l : List ℕ} → Writes o p k → Writes p q l → Writes o q (k ++ l)
writes_after a b = record { same_area = b.same_area ∙ a.same_area; laid = laid_after a.laid b.laid }

pub writes_as : {o p : Output} {k l : List ℕ} → k ≡ l → Writes o p k → Writes o p l
writes_as {o} {p} e a = subst (Writes o p) e a

-- what an output has written that was made over an area, up to where it stands
pub written_up_to : {o p : Output} {w l : List ℕ} {n : ℕ} → o.area.now ≡ w → o.at ≡ 0 → Writes o p l → n ≡ p.at → Laid w p.area.now 0 n l
written_up_to {o} {p} {w} {l} e z a q =
    subst (λ n. Laid w p.area.now 0 n l) (sym q) (subst (λ n. Laid w p.area.now n p.at l) z (subst (λ v. Laid v p.area.now o.at p.at l) e a.laid))

-- the same by its length
pub written_first : {o p : Output} {w l : List ℕ} → o.area.now ≡ w → o.at ≡ 0 → Writes o p l → Laid w p.area.now 0 (length l) l
written_first {o} {p} {w} {l} e z a = written_up_to {p = p} e z a (omega (arith, a.laid.ends))
