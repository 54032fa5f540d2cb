-- What a modality says, over all actions and states: docs/SPECIFICATION.md, clauses 2.5 and 2.6.
use Rattle.std.specs.Prelude.{Bool, true, false, ℕ, ◌<◌, T}
use Rattle.flc.specs.Sets.{has}
use Rattle.flc.specs.Formula.{Table, actions}

-- clause 2.5: from s some step by an action of the group g leads into x. Clause 2.6: every such step does
abbrev pub Leads : Bool → Table → ℕ → ℕ → ℕ → Type 0
Leads true L g x s = (a t : ℕ) × (a < actions) × (t < L.n) × T (has g a) × T (L.step s a t) × T (has x t)
Leads false L g x s = (a t : ℕ) → a < actions → t < L.n → T (has g a) → T (L.step s a t) → T (has x t)
