-- A shape that a law gives only if it fits, and the laws at a node of a rule.
use Prim.Native.Nat.{ℕ, ◌≤◌}
use mathlib.Core.Bool.{Bool, true, false, cond}
use mathlib.Core.List.{List, ◌∷◌}
use mathlib.Core.Path.{◌≡◌, refl, ap, ap₂, ◌∙◌}
use lib.ListN.{get_or}
use Rattle.case_model.specs.Case.{at}
use Rattle.case_model.specs.Kinds.{Triple, kinds}
use Rattle.case_model.specs.Rewriting.{nothing, swap, laws_at, change}
use Rattle.case_reader.specs.NodeKinds.{Decodes}
use Rattle.case_reader.specs.declared.kinds.Kind.{Kind}
use Rattle.case_reader.specs.declared.kinds.UnknownKind.{UnknownKind}
use Rattle.std.specs.Bool.{then_some}
use Rattle.std.specs.Prelude.{Result, Err}
use Rattle.law_shapes.specs.Shapes.{placed, named, change_of}
use Rattle.law_shapes.specs.declared.shapes.Shape.{Shape}

-- a shape that is given if its test passed
pub given : (j : ℕ) (b : Bool) (s : Shape) → change_of j (then_some b s) ≡ cond b (swap (placed s) (named j s)) nothing
given j true s = refl
given j false s = refl

-- the list of laws at node j of a rule
pub at_node : (N : List Triple) (law j : ℕ) (t x y : Triple) → t ≡ at N j → x ≡ at N t.1 → y ≡ at N t.2
    → get_or (nothing ∷ laws_at j t x y) law nothing ≡ change N law j
unfolding change
at_node N law j t x y p q r =
    ap₂ (λ (x y : Triple). get_or (nothing ∷ laws_at j t x y) law nothing) q r
    ∙ ap (λ (t : Triple). get_or (nothing ∷ laws_at j t (at N t.1) (at N t.2)) law nothing) p

-- a number that is no kind's is above those of all kinds
pub unknown_above : (n : ℕ) (r : Result Kind UnknownKind) (e : UnknownKind) → Decodes n r → r ≡ Err e → 15 ≤ n
unfolding kinds
unknown_above n r e d q = let past = rw q at d in past.1
