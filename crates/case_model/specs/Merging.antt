-- Classes of alike states, and merging: docs/SPECIFICATION.md, 4.3 to 4.7, with refusals 8, 10 and 13.
use Rattle.std.specs.Prelude.{ℕ, zero, suc, ◌-◌, ◌*◌, ◌/◌, ◌%◌, min, max, Bool, false, ◌&&◌, not, cond, List, [], ◌∷◌, ◌++◌, map, eqb, ltb, length, take, drop}
use Rattle.flc.specs.Sets.{either, first}
use Rattle.flc.specs.Formula.{actions}
use Rattle.flc.specs.Bisimulation.{alike}
use Rattle.case_model.specs.Limits.{most_states, standard}
use Rattle.case_model.specs.Bytes.{list_of}
use Rattle.case_model.specs.Case.{Case, write, listed, table}
use Rattle.case_model.specs.Kinds.{Triple}
use Rattle.case_model.specs.Looking.{looked}
use Rattle.case_model.specs.Rows.{Found, ◌or_else◌, unless, row8}
use Rattle.case_model.specs.Replies.{Reply, replying, row13}

-- ---- clause 4.3: the first state, from 0 on, that is alike to s
unfoldable pub lowest_alike : Case → ℕ → ℕ
lowest_alike c s = first (alike (looked c) (table c) s) 0 s

-- a byte for each state
abbrev pub classes : Case → List ℕ
classes c = list_of (length c.labels) (lowest_alike c)

unfoldable pub classing : List ℕ → ℕ → Reply (List ℕ)
classing f room = replying standard f (λ c. row13 (classes c) room) classes

-- ---- merging: k is kept, r removed
-- clauses 4.5 and 4.6: the number of the state that stands for s after the merge
unfoldable pub moved : ℕ → ℕ → ℕ → ℕ
moved k r s = cond (eqb s r) k (cond (ltb r s) (s - 1) s)

-- clause 4.5: the steps that are left, with their new ends
unfoldable pub moved_steps : ℕ → ℕ → List Triple → List Triple
moved_steps k r [] = []
moved_steps k r (t ∷ l) =
    cond (eqb t.0 r) (moved_steps k r l) ((moved k r t.0, t.1, moved k r t.2) ∷ moved_steps k r l)

-- a, if the test passed
abbrev pub chosen : {A : Type 0} → Bool → A → List A
chosen b a = cond b (a ∷ []) []

-- clauses 4.5 and 4.8, sorted and without repeats: h x for each number x below n of which p holds
unfoldable pub selected : {A : Type 0} → ℕ → (ℕ → Bool) → (ℕ → A) → List A
selected zero p h = []
selected (suc x) p h = selected x p h ++ chosen (p x) (h x)

-- the triple with the number x, whose lowest digit is the state entered, then the action; whether it is a step; and how many triples there are
abbrev pub numbered : ℕ → Triple
numbered x = (x / (actions * most_states), x / most_states % actions, x % most_states)

abbrev pub is_step : (ℕ → ℕ → ℕ → Bool) → ℕ → Bool
is_step step x = step (numbered x).0 (numbered x).1 (numbered x).2

abbrev pub most_steps : ℕ
most_steps = most_states * (actions * most_states)

-- clause 4.5: the steps among the triples numbered below n
unfoldable pub in_order : ℕ → (ℕ → ℕ → ℕ → Bool) → List Triple
in_order n step = selected n (is_step step) numbered

-- clause 4.8: s is in the list
unfoldable pub is_in : List ℕ → ℕ → Bool
is_in [] s = false
is_in (x ∷ l) s = either (eqb x s) (is_in l s)

-- clauses 4.5 and 4.8: the merged case
unfoldable pub merge : Case → ℕ → ℕ → Case
merge c k r = record {
  labels = take r c.labels ++ drop (suc r) c.labels;
  steps = in_order most_steps (listed (moved_steps k r c.steps));
  nodes = c.nodes;
  root = c.root;
  starts = selected most_states (is_in (map (moved k r) c.starts)) (λ s. s);
}

-- clause 8.10: one state, or two that are not alike
abbrev pub row10 : Case → ℕ → ℕ → Found
row10 c s t = unless (not (eqb s t) && alike (looked c) (table c) s t) 10 0

-- clause 4.4: the file after a merge of s and t, of which the lower is kept
abbrev pub merged_file : ℕ → ℕ → Case → List ℕ
merged_file s t c = write (merge c (min s t) (max s t))

-- clauses 4.4 and 7.4: refusals 1 to 8, 10 and 13, or that file
unfoldable pub merging : List ℕ → ℕ → ℕ → ℕ → Reply (List ℕ)
merging f s t room =
    replying standard f
    (λ c. row8 s (length c.labels) or_else row8 t (length c.labels) or_else row10 c s t or_else row13 (merged_file s t c) room)
    (merged_file s t)
