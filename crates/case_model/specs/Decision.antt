-- Demand 2: what judging's answer says of each state, and its rounds, over all functions of the language: docs/SPECIFICATION.md, 2.8 to 2.12 and 3.2.
use Rattle.std.specs.Prelude.{ℕ, suc, ◌*◌, ◌^◌, ◌≤◌, ◌<◌, Bool, true, false, List, ◌↔◌, ◌≡◌, T}
use Rattle.flc.specs.Sets.{has}
use Rattle.flc.specs.Functions.{Fun, below, monotone, agree, approximant}
use Rattle.flc.specs.Formula.{Table, Formula, op, put, mean, none}
use Rattle.flc.specs.Nodes.{Node, leaf, two, bind, formula_at}
use Rattle.case_model.specs.Case.{read, table, node_at}
use Rattle.case_model.specs.Replies.{answers}
use Rattle.case_model.specs.Judging.{Verdict, judging}

-- clause 2.1: a monotone function from the sets of n states to such sets
pub record Monotone (n : ℕ) (f : Fun) : Type 0 where
  pub sets : (x : ℕ) → x < 2 ^ n → f x < 2 ^ n
  pub rises : T (monotone n f)

-- clauses 2.8 and 2.9: state s is in the least fixed point of the body at x, or in the greatest
abbrev pub InFixed : Bool → ℕ → (Fun → Fun) → ℕ → ℕ → Type 0
InFixed true n body x s = (f : Fun) → Monotone n f → T (below n (body f) f) → T (has (f x) s)
InFixed false n body x s = (f : Fun) × Monotone n f × T (below n f (body f)) × T (has (f x) s)

-- clauses 2.11 and 2.12: the next approximant equals approximant k, the first of which that is true, and k is within the bound
pub record FirstStill (d : Bool) (n : ℕ) (body : Fun → Fun) (k : ℕ) : Type 0 where
  pub still : T (agree n (approximant d n body k) (approximant d n body (suc k)))
  pub first : (j : ℕ) → j < k → T (agree n (approximant d n body j) (approximant d n body (suc j))) → ⊥
  pub most : k ≤ n * 2 ^ n

-- clauses 2.11 and 3.2: the verdict of a root at x, of a binder by its body, of any other node by its line of the meaning and with 0 rounds
abbrev pub Decides : Table → (ℕ → Formula) → Node → ℕ → Verdict → Type 0
Decides L φ (leaf p) x v = (v.set ≡ mean L p none x) × (v.rounds ≡ 0)
Decides L φ (two o a b) x v = (v.set ≡ mean L (op o (φ a) (φ b)) none x) × (v.rounds ≡ 0)
Decides L φ (bind d w b) x v =
    let body : Fun → Fun = λ f. mean L (φ b) (put none w f) in
    ((s : ℕ) → s < L.n → T (has v.set s) ↔ InFixed d L.n body x s) × FirstStill d L.n body v.rounds

-- judging answers with a set of states and rounds that are decided so
pub record Decided (f : List ℕ) (x words : ℕ) : Type 0 where
  pub verdict : Verdict
  pub answered : judging f x words ≡ answers verdict
  pub within : verdict.set < 2 ^ (table (read f)).n
  pub decides : Decides (table (read f)) (formula_at (node_at (read f))) (node_at (read f) (read f).root) x verdict
