-- What the code's shapes stand for: the changes of the nine laws (docs/SPECIFICATION.md, section 5).
use Rattle.std.specs.Prelude.{ℕ, List, [], ◌∷◌, ◌≡◌, Option, Some, None}
use Rattle.case_model.specs.Kinds as byTable
use Rattle.case_model.specs.Rewriting.{Change, nothing, swap, redirected, shifted}
use Rattle.case_reader.specs.Read.{triple}
use Rattle.law_shapes.specs.declared.shapes.Shape.{Shape}
use Rattle.law_shapes.specs.declared.shapes.Shape.TheVariants as shape

-- clause 5.1: the nodes that are put in place of node j, and how many more they are than one
abbrev pub placed : Shape → List byTable.Triple
placed (shape.Redirect n to) = triple n ∷ []
placed (shape.One x) = triple x ∷ []
placed (shape.Two x y) = triple x ∷ triple y ∷ []
placed (shape.Three x y z) = triple x ∷ triple y ∷ triple z ∷ []

abbrev pub added : Shape → ℕ
added (shape.Redirect n to) = 0
added (shape.One x) = 0
added (shape.Two x y) = 1
added (shape.Three x y z) = 2

-- clauses 5.2 and 5.3: what a number that names node i becomes
abbrev pub named : ℕ → Shape → ℕ → ℕ
named j (shape.Redirect n to) = redirected j to
named j (shape.One x) = shifted j 0
named j (shape.Two x y) = shifted j 1
named j (shape.Three x y z) = shifted j 2

-- clause 8.11: no shape, no change
abbrev pub change_of : ℕ → Option Shape → Change
change_of j None = nothing
change_of j (Some s) = swap (placed s) (named j s)

-- clause 5.1: a shape, or none, that does what the change e says
abbrev pub Does : ℕ → Option Shape → Change → Type 0
Does j s e = change_of j s ≡ e
