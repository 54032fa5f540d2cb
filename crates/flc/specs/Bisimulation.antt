-- Bisimulations and alike states: docs/SPECIFICATION.md, section 4.
use Rattle.std.specs.Prelude.{Bool, ℕ, ◌^◌, eqb}
use Rattle.flc.specs.Sets.{both, implies, for_all, for_some, has}
use Rattle.flc.specs.Functions.{for_some_fun}
use Rattle.flc.specs.Formula.{Table, actions}
use Rattle.flc.specs.Vocabulary.{Vocabulary, reduct}

-- ---- of a table as it is
-- clause 4.1, one way: for whichever step of s, t has one with the same action, and R relates the states entered
unfoldable pub met : Table → (ℕ → ℕ → Bool) → ℕ → ℕ → Bool
met L R s t =
    for_all actions (λ a. for_all L.n (λ s'. implies (L.step s a s') (for_some L.n (λ t'. both (L.step t a t') (R s' t')))))

-- clause 4.1, of the table as it is: related states have the same label, and both ways hold of them
unfoldable pub matching : Table → (ℕ → ℕ → Bool) → Bool
matching L R =
    for_all L.n (λ s. for_all L.n (λ t. implies (R s t)
    (both (eqb (L.label s) (L.label t)) (both (met L R s t) (met L (λ x y. R y x) t s)))))

-- clause 4.2, likewise: some such relation relates s and t. A relation is a function from states to sets of states
unfoldable pub bisimilar : Table → ℕ → ℕ → Bool
bisimilar L s t =
    for_some_fun L.n (2 ^ L.n) (λ f. both (matching L (λ s t. has (f s) t)) (has (f s) t))

-- ---- as far as W looks
-- clause 4.1: R is a bisimulation, compared by the propositions and the actions of W
unfoldable pub bisimulation : Vocabulary → Table → (ℕ → ℕ → Bool) → Bool
bisimulation W L R = matching (reduct W L) R

-- clause 4.2: there is a bisimulation that relates s and t
unfoldable pub alike : Vocabulary → Table → ℕ → ℕ → Bool
alike W L s t = bisimilar (reduct W L) s t
