-- The drives of docs/SPECIFICATION.md, clause 10.1, as one table, and what each of them claims.
-- A set is a number: {3, 7} is 8 + 128 = 136, {3, 6} is 72, and all of n states is 2 ^ n - 1. Those of clause 10.2 are tests.
use Rattle.std.specs.Prelude.{◌≡◌, List, [], ◌∷◌, ℕ}
use Rattle.flc.specs.Formula.{mean, none}
use Rattle.flc.specs.Nodes.{lower, approximant_of, rounds_at}
use Rattle.case_model.specs.Limits.{standard}
use Rattle.case_model.specs.Case.{Case, read, table, node_at, rule}
use Rattle.case_model.specs.Rows.{sound, refusals}

pub record Drive : Type 0 where
  -- the bytes of the case file: pairs, labels, steps, nodes, root; no start states
  pub file : List ℕ
  -- its rounds, if the drive claims any; clause 2.11 has 0 for a root that is no binder
  pub rounds : List ℕ
  -- set, and the rule's value there
  pub values : List (ℕ × ℕ)
  -- k, set, and the value of approximant k there
  pub approximants : List (ℕ × ℕ × ℕ)

-- P holds of each element
abbrev pub Each : {A : Type 0} → (A → Type 0) → List A → Type 0
Each P [] = Unit {0}
Each P (a ∷ l) = P a × Each P l

-- the file is accepted, and its case c has the rounds, values and approximants listed
pub record Shows (d : Drive) (c : Case) : Type 0 where
  pub accepted : refusals standard d.file ≡ sound
  pub counts : Each (λ k. rounds_at (table c) (node_at c) c.root ≡ k) d.rounds
  pub gives : Each (λ (x, y). mean (table c) (rule c) none x ≡ y) d.values
  pub approaches : Each (λ (k, x, y). approximant_of (table c) (node_at c c.root) (lower (node_at c) c.root) k x ≡ y) d.approximants

abbrev pub Right : Drive → Type 0
Right d = Shows d (read d.file)

-- a single node of kind k with operand a, on two states: 0 steps to itself by action 0 and to 1 by action 7, and 1 steps to 0 by action 3
abbrev pub leaf_on_two_states : ℕ → ℕ → List (ℕ × ℕ) → Drive
leaf_on_two_states k a v = record {
  file =
      16 ∷ 0 ∷ 2 ∷ 0 ∷ 18 ∷ 0 ∷ 9 ∷ 0 ∷ 27 ∷ 0 ∷ 4 ∷ 0 ∷ 31 ∷ 0 ∷ 0 ∷ 0
      ∷ 0 ∷ 0
      ∷ 0 ∷ 0 ∷ 0 ∷ 0 ∷ 7 ∷ 1 ∷ 1 ∷ 3 ∷ 0
      ∷ k ∷ a ∷ 0
      ∷ 0 ∷ [];
  rounds = 0 ∷ [];
  values = v;
  approximants = [];
}

unfoldable pub drives : List Drive
drives =
    -- case F, the rule μY.⟨1⟩ or ⟨0⟩;νZ.Y;Z;Y, after 2 rounds: {0, 1} of all states, {0} of none
    record {
      file =
          16 ∷ 0 ∷ 2 ∷ 0 ∷ 18 ∷ 0 ∷ 6 ∷ 0 ∷ 24 ∷ 0 ∷ 31 ∷ 0 ∷ 55 ∷ 0 ∷ 0 ∷ 0
          ∷ 0 ∷ 0
          ∷ 0 ∷ 0 ∷ 1 ∷ 1 ∷ 1 ∷ 1
          ∷ 4 ∷ 0 ∷ 0 ∷ 4 ∷ 1 ∷ 0 ∷ 10 ∷ 0 ∷ 1 ∷ 10 ∷ 2 ∷ 0 ∷ 12 ∷ 1 ∷ 3 ∷ 6 ∷ 0 ∷ 0 ∷ 10 ∷ 5 ∷ 4 ∷ 6 ∷ 1 ∷ 0 ∷ 8 ∷ 7 ∷ 6 ∷ 11 ∷ 0 ∷ 8
          ∷ 9 ∷ [];
      rounds = 2 ∷ [];
      values = (3, 3) ∷ (0, 1) ∷ [];
      approximants = [];
    } ∷
    -- μZ.(⟨1⟩ and ⟨2⟩) or Z;⟨0⟩ over the wheels 1, 2, 3 and 4, 5, 6, 7, after 12 rounds: {0} of {3, 7} and of {3, 6}, nothing of the empty set. State 0 is
    -- in approximant 12 at {3, 7} and not in approximant 11
    record {
      file =
          16 ∷ 0 ∷ 8 ∷ 0 ∷ 24 ∷ 0 ∷ 27 ∷ 0 ∷ 51 ∷ 0 ∷ 25 ∷ 0 ∷ 76 ∷ 0 ∷ 0 ∷ 0
          ∷ 0 ∷ 0 ∷ 0 ∷ 0 ∷ 0 ∷ 0 ∷ 0 ∷ 0
          ∷ 0 ∷ 1 ∷ 1 ∷ 0 ∷ 2 ∷ 4 ∷ 1 ∷ 0 ∷ 2 ∷ 2 ∷ 0 ∷ 3 ∷ 3 ∷ 0 ∷ 1 ∷ 4 ∷ 0 ∷ 5 ∷ 5 ∷ 0 ∷ 6 ∷ 6 ∷ 0 ∷ 7 ∷ 7 ∷ 0 ∷ 4
          ∷ 6 ∷ 1 ∷ 0 ∷ 6 ∷ 2 ∷ 0 ∷ 9 ∷ 0 ∷ 1 ∷ 4 ∷ 0 ∷ 0 ∷ 6 ∷ 0 ∷ 0 ∷ 10 ∷ 3 ∷ 4 ∷ 8 ∷ 2 ∷ 5 ∷ 11 ∷ 0 ∷ 6
          ∷ 7 ∷ [];
      rounds = 12 ∷ [];
      values = (136, 1) ∷ (72, 1) ∷ (0, 0) ∷ [];
      approximants = (11, 136, 0) ∷ (12, 136, 1) ∷ [];
    } ∷
    -- example 4 of document 004, νZ.μY.(⟨0⟩;Z) and ([1];(Y or τ);⟨1⟩), where 0 steps to itself by 0, and 0 and 1 to each other by 1: {0} of all states
    record {
      file =
          16 ∷ 0 ∷ 2 ∷ 0 ∷ 18 ∷ 0 ∷ 9 ∷ 0 ∷ 27 ∷ 0 ∷ 40 ∷ 0 ∷ 67 ∷ 0 ∷ 0 ∷ 0
          ∷ 0 ∷ 0
          ∷ 0 ∷ 0 ∷ 0 ∷ 0 ∷ 1 ∷ 1 ∷ 1 ∷ 1 ∷ 0
          ∷ 6 ∷ 0 ∷ 0 ∷ 4 ∷ 0 ∷ 0 ∷ 10 ∷ 0 ∷ 1 ∷ 7 ∷ 1 ∷ 0 ∷ 4 ∷ 1 ∷ 0 ∷ 5 ∷ 0 ∷ 0
          ∷ 8 ∷ 4 ∷ 5 ∷ 10 ∷ 3 ∷ 6 ∷ 6 ∷ 1 ∷ 0 ∷ 10 ∷ 7 ∷ 8 ∷ 9 ∷ 2 ∷ 9 ∷ 11 ∷ 1 ∷ 10 ∷ 12 ∷ 0 ∷ 11
          ∷ 12 ∷ [];
      rounds = [];
      values = (3, 1) ∷ [];
      approximants = [];
    } ∷
    -- [0] of the empty set, where a single state has no step: {0}
    record {
      file =
          16 ∷ 0 ∷ 1 ∷ 0 ∷ 17 ∷ 0 ∷ 0 ∷ 0 ∷ 17 ∷ 0 ∷ 4 ∷ 0 ∷ 21 ∷ 0 ∷ 0 ∷ 0
          ∷ 0
          ∷ 7 ∷ 0 ∷ 0
          ∷ 0 ∷ [];
      rounds = 0 ∷ [];
      values = (0, 1) ∷ [];
      approximants = [];
    } ∷
    -- ⟨0⟩ of the same: nothing
    record {
      file =
          16 ∷ 0 ∷ 1 ∷ 0 ∷ 17 ∷ 0 ∷ 0 ∷ 0 ∷ 17 ∷ 0 ∷ 4 ∷ 0 ∷ 21 ∷ 0 ∷ 0 ∷ 0
          ∷ 0
          ∷ 6 ∷ 0 ∷ 0
          ∷ 0 ∷ [];
      rounds = 0 ∷ [];
      values = (0, 0) ∷ [];
      approximants = [];
    } ∷
    -- τ of the same: nothing
    record {
      file =
          16 ∷ 0 ∷ 1 ∷ 0 ∷ 17 ∷ 0 ∷ 0 ∷ 0 ∷ 17 ∷ 0 ∷ 4 ∷ 0 ∷ 21 ∷ 0 ∷ 0 ∷ 0
          ∷ 0
          ∷ 5 ∷ 0 ∷ 0
          ∷ 0 ∷ [];
      rounds = 0 ∷ [];
      values = (0, 0) ∷ [];
      approximants = [];
    } ∷
    -- μZ.Z, of both sets of one state: nothing, after 0 rounds
    record {
      file =
          16 ∷ 0 ∷ 1 ∷ 0 ∷ 17 ∷ 0 ∷ 0 ∷ 0 ∷ 17 ∷ 0 ∷ 7 ∷ 0 ∷ 24 ∷ 0 ∷ 0 ∷ 0
          ∷ 0
          ∷ 4 ∷ 0 ∷ 0 ∷ 11 ∷ 0 ∷ 0
          ∷ 1 ∷ [];
      rounds = 0 ∷ [];
      values = (0, 0) ∷ (1, 0) ∷ [];
      approximants = [];
    } ∷
    -- νZ.Z, likewise: all states, after 0 rounds
    record {
      file =
          16 ∷ 0 ∷ 1 ∷ 0 ∷ 17 ∷ 0 ∷ 0 ∷ 0 ∷ 17 ∷ 0 ∷ 7 ∷ 0 ∷ 24 ∷ 0 ∷ 0 ∷ 0
          ∷ 0
          ∷ 4 ∷ 0 ∷ 0 ∷ 12 ∷ 0 ∷ 0
          ∷ 1 ∷ [];
      rounds = 0 ∷ [];
      values = (0, 1) ∷ (1, 1) ∷ [];
      approximants = [];
    } ∷
    -- ⟨0⟩;(p0 and p1), where 0 steps to 1, which has p0, and to 2, which has p1: nothing of all states
    record {
      file =
          16 ∷ 0 ∷ 3 ∷ 0 ∷ 19 ∷ 0 ∷ 6 ∷ 0 ∷ 25 ∷ 0 ∷ 16 ∷ 0 ∷ 41 ∷ 0 ∷ 0 ∷ 0
          ∷ 0 ∷ 1 ∷ 2
          ∷ 0 ∷ 0 ∷ 1 ∷ 0 ∷ 0 ∷ 2
          ∷ 6 ∷ 0 ∷ 0 ∷ 2 ∷ 0 ∷ 0 ∷ 2 ∷ 1 ∷ 0 ∷ 9 ∷ 1 ∷ 2 ∷ 10 ∷ 0 ∷ 3
          ∷ 4 ∷ [];
      rounds = 0 ∷ [];
      values = (7, 0) ∷ [];
      approximants = [];
    } ∷
    -- (⟨0⟩;p0) and (⟨0⟩;p1) on that table: {0} of all states
    record {
      file =
          16 ∷ 0 ∷ 3 ∷ 0 ∷ 19 ∷ 0 ∷ 6 ∷ 0 ∷ 25 ∷ 0 ∷ 19 ∷ 0 ∷ 44 ∷ 0 ∷ 0 ∷ 0
          ∷ 0 ∷ 1 ∷ 2
          ∷ 0 ∷ 0 ∷ 1 ∷ 0 ∷ 0 ∷ 2
          ∷ 6 ∷ 0 ∷ 0 ∷ 2 ∷ 0 ∷ 0 ∷ 2 ∷ 1 ∷ 0 ∷ 10 ∷ 0 ∷ 1 ∷ 10 ∷ 0 ∷ 2 ∷ 9 ∷ 3 ∷ 4
          ∷ 5 ∷ [];
      rounds = 0 ∷ [];
      values = (7, 1) ∷ [];
      approximants = [];
    } ∷
    -- the empty group: under 13 no state and under 14 every state, of each set, though there are steps
    leaf_on_two_states 13 0 ((0, 0) ∷ (1, 0) ∷ (2, 0) ∷ (3, 0) ∷ []) ∷
    leaf_on_two_states 14 0 ((0, 3) ∷ (1, 3) ∷ (2, 3) ∷ (3, 3) ∷ []) ∷
    -- the group {0, 7}: state 0 steps by it to 0 and to 1, state 1 has no such step
    leaf_on_two_states 13 129 ((0, 0) ∷ (1, 1) ∷ (2, 1) ∷ (3, 1) ∷ []) ∷
    leaf_on_two_states 14 129 ((0, 2) ∷ (1, 2) ∷ (2, 2) ∷ (3, 3) ∷ []) ∷
    -- the group {7} under 13, and action 7 under 6: the same of each set
    leaf_on_two_states 13 128 ((0, 0) ∷ (1, 0) ∷ (2, 1) ∷ (3, 1) ∷ []) ∷
    leaf_on_two_states 6 7 ((0, 0) ∷ (1, 0) ∷ (2, 1) ∷ (3, 1) ∷ []) ∷
    []
