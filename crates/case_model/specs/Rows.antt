-- Refusals 1 to 8, over any list of bytes: docs/SPECIFICATION.md, section 8, with the order and places of section 7.
use Rattle.std.specs.Prelude.{ℕ, ◌-◌, ◌%◌, Bool, true, false, ◌&&◌, ◌||◌, not, List, length, eqb, leb, ltb}
use Rattle.flc.specs.Sets.{for_all, for_some, first}
use Rattle.flc.specs.Formula.{free, actions}
use Rattle.case_model.specs.Bytes.{byte_at, size, pairs_hold}
use Rattle.case_model.specs.Limits.{Limits, most_nodes, variables}
use Rattle.case_model.specs.Kinds.{Triple, node_of, node_holds, is_binder}
use Rattle.case_model.specs.Case.{Case, read, at, node_at, rule}

-- what a row finds: nothing, or a refusal with its number and place
pub data Found : Type 0 where
  sound : Found
  refused : ℕ → ℕ → Found

-- clause 7.3: the earlier refusal is the one given
infixl 30 ◌or_else◌
abbrev pub ◌or_else◌ : Found → Found → Found
sound or_else later = later
(refused k p) or_else later = refused k p

-- refusal k at place p, unless the test passes
abbrev pub unless : Bool → ℕ → ℕ → Found
unless true k p = sound
unless false k p = refused k p

-- clause 7.2: refusal k at the lowest of c places that are wrong
unfoldable pub lowest : ℕ → (ℕ → Bool) → ℕ → Found
lowest k wrong c = unless (eqb (first wrong 0 c) c) k (first wrong 0 c)

-- clauses 1.5 and 1.16: element i of a list is at fault, by itself or because it does not come after the one before it
abbrev pub out_of_order : {A : Type 0} → (A → Bool) → (A → A → Bool) → (ℕ → A) → ℕ → Bool
out_of_order in_range after l i = not (in_range (l i) && (eqb i 0 || after (l (i - 1)) (l i)))

-- clause 1.5: u comes after t
abbrev pub rises : Triple → Triple → Bool
rises t u =
    ltb t.0 u.0
    || (eqb t.0 u.0 && (ltb t.1 u.1 || (eqb t.1 u.1 && ltb t.2 u.2)))

-- clause 8.3: a step between n states
abbrev pub step_fits : ℕ → Triple → Bool
step_fits n t = ltb t.0 n && ltb t.1 actions && ltb t.2 n

-- clauses 7.2 and 8.3: step i is at fault
abbrev pub step_wrong : Case → ℕ → Bool
step_wrong c = out_of_order (step_fits (length c.labels)) rises (at c.steps)

-- clauses 1.16 and 8.4: start state i is at fault
abbrev pub start_wrong : Case → ℕ → Bool
start_wrong c = out_of_order (λ s. ltb s (length c.labels)) ltb (byte_at c.starts)

-- clause 8.5: node j is at fault
abbrev pub node_wrong : Case → ℕ → Bool
node_wrong c j = not (node_holds j (at c.nodes j))

-- clauses 1.9 and 8.6: node j binds what a lower node binds
abbrev pub binds : Triple → ℕ → Bool
binds t v = is_binder (node_of t) && eqb t.1 v

abbrev pub binder_wrong : Case → ℕ → Bool
binder_wrong c j =
    is_binder (node_at c j) && for_some j (λ i. binds (at c.nodes i) (at c.nodes j).1)

-- clauses 1.10 and 8.7: nothing is free in the tree of the root
unfoldable pub root_closed : Case → Bool
root_closed c = for_all variables (λ v. not (free v (rule c)))

-- ---- the rows of the table of refusals
-- clause 8.1: the head, or the length of the file
abbrev pub row1 : Limits → List ℕ → Found
row1 most f = unless (pairs_hold most f) 1 0

-- clause 8.2: a label at least, and not too many
abbrev pub labels_hold : Limits → Case → Bool
labels_hold most c = leb 1 (length c.labels) && leb (length c.labels) most.states

abbrev pub row2 : Limits → Case → Found
row2 most c = unless (labels_hold most c) 2 0

-- clause 8.3: the length of the section before its steps, at place 0
abbrev pub row3 : List ℕ → Case → Found
row3 f c = unless (eqb (size f 1 % 3) 0) 3 0 or_else lowest 3 (step_wrong c) (length c.steps)

-- clause 8.4: whole nodes, 1 to 64 of them, then the number of one
abbrev pub rule_holds : List ℕ → Case → Bool
rule_holds f c =
    eqb (size f 2 % 3) 1 && leb 1 (length c.nodes) && leb (length c.nodes) most_nodes && ltb c.root (length c.nodes)

-- and no start state at fault, which is asked after that
abbrev pub starts_rise : Case → Bool
starts_rise c = for_all (length c.starts) (λ i. not (start_wrong c i))

abbrev pub row4 : List ℕ → Case → Found
row4 f c = unless (rule_holds f c) 4 0 or_else unless (starts_rise c) 4 0

-- clauses 8.5 and 8.6: at the lowest node that is wrong
abbrev pub row5 : Case → Found
row5 c = lowest 5 (node_wrong c) (length c.nodes)

abbrev pub row6 : Case → Found
row6 c = lowest 6 (binder_wrong c) (length c.nodes)

abbrev pub row7 : Case → Found
row7 c = unless (root_closed c) 7 0

-- clause 8.8, of a number that must be below `count`
abbrev pub row8 : ℕ → ℕ → Found
row8 x count = unless (ltb x count) 8 0

-- clauses 6.1 and 7.3: the refusals of a file that is not accepted within these limits
unfoldable pub refusals : Limits → List ℕ → Found
refusals most f =
    row1 most f or_else row2 most (read f) or_else row3 f (read f) or_else row4 f (read f)
    or_else row5 (read f) or_else row6 (read f) or_else row7 (read f)
