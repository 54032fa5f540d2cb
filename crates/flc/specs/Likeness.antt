-- What is known of alike states, whatever is looked at: docs/SPECIFICATION.md, clause 4.10.
use Rattle.std.specs.Prelude.{Bool, ◌≡◌, ℕ, ◌^◌, ◌<◌, T}
use Rattle.flc.specs.Sets.{has}
use Rattle.flc.specs.Functions.{Fun}
use Rattle.flc.specs.Formula.{Table, Env, Formula, mean}
use Rattle.flc.specs.Order.{GoodEnv}
use Rattle.flc.specs.Vocabulary.{Vocabulary, vocabulary, Included}
use Rattle.flc.specs.Bisimulation.{bisimilar, bisimulation, alike}

-- clause 4.10: of alike states the set x has both or neither
abbrev pub UnionOfClasses : Vocabulary → Table → ℕ → Type 0
UnionOfClasses W L x = (s t : ℕ) → s < L.n → t < L.n → T (alike W L s t) → has x s ≡ has x t

-- clause 4.10: f takes unions of classes to unions of classes
abbrev pub KeepsClasses : Vocabulary → Table → Fun → Type 0
KeepsClasses W L f = (x : ℕ) → x < 2 ^ L.n → UnionOfClasses W L x → UnionOfClasses W L (f x)

-- clause 4.10: being alike is an equivalence and the largest bisimulation; states that are bisimilar in the whole table are alike; and a rule
-- that looks no further than W keeps unions of classes, if what its variables stand for does
pub record Likeness (W : Vocabulary) (L : Table) : Type 0 where
  pub reflexive : (s : ℕ) → s < L.n → T (alike W L s s)
  pub symmetric : (s t : ℕ) → s < L.n → t < L.n → T (alike W L s t) → T (alike W L t s)
  pub transitive : (s t u : ℕ) → s < L.n → t < L.n → u < L.n → T (alike W L s t) → T (alike W L t u) → T (alike W L s u)
  pub bisimulates : T (bisimulation W L (alike W L))
  pub largest : (R : ℕ → ℕ → Bool) → T (bisimulation W L R) → (s t : ℕ) → s < L.n → t < L.n → T (R s t) → T (alike W L s t)
  pub wider : (s t : ℕ) → s < L.n → t < L.n → T (bisimilar L s t) → T (alike W L s t)
  pub invariant : (p : Formula) → Included (vocabulary p) W → (ρ : Env) → GoodEnv L.n ρ → ((v : ℕ) → KeepsClasses W L (ρ v)) → KeepsClasses W L (mean L p ρ)
