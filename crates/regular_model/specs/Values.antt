-- The set that a regular rule stands for, from one set for each variable: no functions. The contracts of the code that computes it cite these; what the
-- entry promises does not.
use Rattle.std.specs.Prelude.{Bool, true, not, cond, ℕ, ◌^◌, ◌<◌, eqb}
use Rattle.flc.specs.Sets.{both, either, has, set_of}
use Rattle.flc.specs.Formula.{Table, Atom, top, bottom, tau, prop, nprop, modal, or, and, chop, Formula, atom, var, op, fix, mean_atom}
use Rattle.flc.specs.Iterates.{iterate}
use Rattle.flc.specs.Order.{Sub}

-- where a binder begins: no state for μ, all states for ν
unfoldable pub begin : Bool → ℕ → ℕ
begin d n = set_of n (λ s. not d)

-- c with s for v
unfoldable pub given : (ℕ → ℕ) → ℕ → ℕ → ℕ → ℕ
given c v s w = cond (eqb w v) s (c w)

-- the atom whose set a leaf has; τ and the modalities yield no one set, and have that of ff
abbrev pub constant_of : Atom → Atom
constant_of top = top
constant_of bottom = bottom
constant_of tau = bottom
constant_of (prop i) = prop i
constant_of (nprop i) = nprop i
constant_of (modal d g) = bottom

-- the modality that stands on the left of a chop; where none does, one by no action
abbrev pub modality_in : Atom → Atom
modality_in top = modal true 0
modality_in bottom = modal true 0
modality_in tau = modal true 0
modality_in (prop i) = modal true 0
modality_in (nprop i) = modal true 0
modality_in (modal d g) = modal d g

abbrev pub modality_of : Formula → Atom
modality_of (atom a) = modality_in a
modality_of (var v) = modal true 0
modality_of (op o p q) = modal true 0
modality_of (fix d v p) = modal true 0

-- the set of a rule; of any rule, so that code and proofs need the profile at the root alone
unfoldable pub value : Table → Formula → (ℕ → ℕ) → ℕ
value L (atom a) c = mean_atom L (constant_of a) 0
value L (var v) c = c v
value L (op or p q) c = set_of L.n (λ s. either (has (value L p c) s) (has (value L q c) s))
value L (op and p q) c = set_of L.n (λ s. both (has (value L p c) s) (has (value L q c) s))
value L (op chop p q) c = mean_atom L (modality_of p) (value L q c)
value L (fix d v p) c = iterate (λ s. value L p (given c v s)) (begin d L.n) L.n

-- no set for any variable
unfoldable pub no_sets : ℕ → ℕ
no_sets v = 0

-- a set from which the iterates of a map rise to its fixed point, in the order of the flag
pub record Climbing (d : Bool) (n : ℕ) (F : ℕ → ℕ) (s : ℕ) : Type 0 where
  pub small : s < 2 ^ n
  pub first : Sub d n s (F s)
  pub low : Sub d n s (iterate F (begin d n) n)
