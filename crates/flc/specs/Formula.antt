-- State tables, rules as trees, and what a rule means: docs/SPECIFICATION.md, section 2.
use Rattle.std.specs.Prelude.{Bool, true, false, not, cond, ℕ, eqb}
use Rattle.flc.specs.Sets.{both, either, for_some, among, has, set_of}
use Rattle.flc.specs.Functions.{Fun, meet, join}

-- clauses 1.4 and 1.5: n states, the label byte of each, and the transitions by state left, action, state entered
pub record Table : Type 0 where
  pub n : ℕ
  pub label : ℕ → ℕ
  pub step : ℕ → ℕ → ℕ → Bool

-- clauses 1.5 and 1.7: there are eight actions; a group is a set of them
abbrev pub actions : ℕ
actions = 8

-- tt, ff, τ; a proposition, its complement; the modalities of a group, modal true g being ⟨g⟩ and modal false g being [g]
pub data Atom : Type 0 where
  top bottom tau : Atom
  prop nprop : ℕ → Atom
  modal : Bool → ℕ → Atom

pub data Op : Type 0 where
  or and chop : Op

-- a rule: fix true is μ, fix false is ν
pub data Formula : Type 0 where
  atom : Atom → Formula
  var : ℕ → Formula
  op : Op → Formula → Formula → Formula
  fix : Bool → ℕ → Formula → Formula

-- clauses 2.5 and 2.6: there is a transition from s to t whose action is in the group g
unfoldable pub steps_by : Table → ℕ → ℕ → ℕ → Bool
steps_by L g s t = for_some actions (λ a. both (has g a) (L.step s a t))

-- clauses 2.2, 2.3, 2.5 and 2.6, at the set x: what is constant; τ; and the modalities, where of the states that s steps to by the group some (⟨g⟩)
-- or all ([g]) are in x
unfoldable pub mean_atom : Table → Atom → Fun
mean_atom L top x = set_of L.n (λ s. true)
mean_atom L bottom x = set_of L.n (λ s. false)
mean_atom L (prop i) x = set_of L.n (λ s. has (L.label s) i)
mean_atom L (nprop i) x = set_of L.n (λ s. not (has (L.label s) i))
mean_atom L tau x = x
mean_atom L (modal d g) x = set_of L.n (λ s. among d L.n (steps_by L g s) (has x))

-- clause 2.1: a function for each variable
abbrev pub Env : Type 0
Env = ℕ → Fun

-- ρ with f for v
unfoldable pub put : Env → ℕ → Fun → Env
put ρ v f w = cond (eqb w v) f (ρ w)

-- clauses 2.3, 2.4, 2.8 and 2.9: or, and, chop and the two fixed points at the set x
unfoldable pub mean : Table → Formula → Env → Fun
mean L (atom a) ρ x = mean_atom L a x
mean L (var v) ρ x = ρ v x
mean L (op or p q) ρ x = set_of L.n (λ s. either (has (mean L p ρ x) s) (has (mean L q ρ x) s))
mean L (op and p q) ρ x = set_of L.n (λ s. both (has (mean L p ρ x) s) (has (mean L q ρ x) s))
mean L (op chop p q) ρ x = mean L p ρ (mean L q ρ x)
mean L (fix true v p) ρ x = meet L.n (λ f. mean L p (put ρ v f)) x
mean L (fix false v p) ρ x = join L.n (λ f. mean L p (put ρ v f)) x

-- an environment for a root, which has no free variable: any other serves as well
unfoldable pub none : Env
none v x = 0

-- clause 1.10: the variable w occurs in the rule where no binder of w is above it
unfoldable pub free : ℕ → Formula → Bool
free w (atom a) = false
free w (var v) = eqb w v
free w (op o p q) = either (free w p) (free w q)
free w (fix d v p) = both (not (eqb w v)) (free w p)
