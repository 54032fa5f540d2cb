-- What the recursion over nodes asks of a rule: its nodes are as they should be, and a node's scope has what the nodes that it names depend on.
use Prim.Native.Nat.{ℕ, ◌<◌}
use mathlib.Core.Bool.{Bool}
use mathlib.Core.Path.{◌≡◌}
use lib.Dec.{T, eqb}
use Rattle.flc.specs.Sets.{either, has}
use Rattle.flc.specs.Formula.{Op, free}
use Rattle.flc.specs.Nodes.{two, bind, formula_at}
use Rattle.case_model.proofs.Nodes.{Fits}
use Rattle.regular_model.specs.Blocks.{Frame, Within}

-- a node depends on its free variables and on what the nodes that it names depend on, but for the variable that a binder binds
pub record Framed (F : Frame) : Type 0 where
  pub fits : (j : ℕ) → j < F.m → Fits j (F.N j)
  pub homes : (j : ℕ) {d : Bool} {v b : ℕ} → j < F.m → F.N j ≡ bind d v b → F.home v ≡ j
  pub frees : (j v : ℕ) → j < F.m → T (free v (formula_at F.N j)) → (v < 16) × T (has (F.scope j) v)
  pub names : (j : ℕ) {o : Op} {a b : ℕ} → j < F.m → F.N j ≡ two o a b → Within F a (F.scope j) × Within F b (F.scope j)
  pub body : (j : ℕ) {d : Bool} {v b : ℕ} → j < F.m → F.N j ≡ bind d v b
      → (s : ℕ) → s < 18 → T (has (F.scope b) s) → T (either (has (F.scope j) s) (eqb s v))
