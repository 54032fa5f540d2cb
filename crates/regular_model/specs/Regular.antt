-- Which rules are regular, by the tree of the rule: docs/SPECIFICATION.md, clause 12.2.
use Rattle.std.specs.Prelude.{Bool, true, false}
use Rattle.flc.specs.Sets.{both}
use Rattle.flc.specs.Formula.{Atom, top, bottom, tau, prop, nprop, modal, or, and, chop, Formula, atom, var, op, fix}

-- ⟨g⟩ or [g], of one action or of a group
abbrev pub modality : Atom → Bool
modality top = false
modality bottom = false
modality tau = false
modality (prop i) = false
modality (nprop i) = false
modality (modal d g) = true

-- an atom that yields one set, whatever set it is given
abbrev pub constant : Atom → Bool
constant top = true
constant bottom = true
constant tau = false
constant (prop i) = true
constant (nprop i) = true
constant (modal d g) = false

-- a rule that is a modality and nothing else
abbrev pub is_modality : Formula → Bool
is_modality (atom a) = modality a
is_modality (var v) = false
is_modality (op o p q) = false
is_modality (fix d v p) = false

-- clause 12.2: no τ, a modality on the left of every chop, and modalities nowhere else
unfoldable pub regular : Formula → Bool
regular (atom a) = constant a
regular (var v) = true
regular (op or p q) = both (regular p) (regular q)
regular (op and p q) = both (regular p) (regular q)
regular (op chop p q) = both (is_modality p) (regular q)
regular (fix d v p) = regular p
