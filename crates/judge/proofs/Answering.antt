-- From the tables to the verdict, and from the rows to the reply. The state table and the nodes of the plan are those of the case, so that the root's
-- function and rounds are.
use Prim.Native.Nat.{ℕ, ◌+◌, ◌*◌, ◌^◌, ◌<◌}
use mathlib.Core.Bool.{false}
use mathlib.Core.List.{List}
use mathlib.Core.Path.{◌≡◌, ap, ◌∙◌, subst}
use borrow.Author.Tests.{lt-ltb}
use lib.Dec.{leb, ltb}
use lib.ListN.{length, get_or}
use Rattle.flc.specs.Formula.{Table, mean, none}
use Rattle.flc.specs.Nodes.{Node, formula_at, rounds_at}
use Rattle.flc.proofs.Meanings.{mean-free}
use Rattle.case_model.specs.Limits.{standard}
use Rattle.case_model.specs.Case.{Case, read, table, node_at, rule}
use Rattle.case_model.specs.Rows.{sound, refusals}
use Rattle.case_model.specs.Replies.{refuses, replying}
use Rattle.case_model.specs.Reach.{the_root}
use Rattle.case_model.specs.Judging as model
use Rattle.case_model.specs.Judging.{verdict, judging}
use Rattle.case_plan.specs.Plans.{Plan, table_of, nodes_of, Planned}
use Rattle.engine.specs.Asking.{Asked}
use Rattle.engine.specs.Computing.{Ran}
use Rattle.judge.specs.PlanVerdicts.{plan_verdict}

-- what the root's word holds after the run, for the root has no free variable
pub root_answer : {p : Plan} {x words : ℕ} → Asked p x words → {w v : List ℕ} {r y : ℕ} → Ran p w v r → y ≡ get_or v (p.root * p.size + x) 0
    → record { set = y; rounds = r } ≡ plan_verdict p x
root_answer {p} {x} A {w} {v} {r} {y} R e =
    let k : x < 2 ^ p.states = subst (λ m. x < m) A.runnable.sound.sized.size A.inside in
    let s = e ∙ R.right p.root the_root x k
    ∙ ap (λ f. f x) (mean-free (table_of p) (formula_at (nodes_of p) p.root) _ none (λ v t. absurd (A.runnable.sound.rule.closed v t))) in
    λ i. record { set = s i; rounds = R.rounds i }

-- the plan's verdict is the case's
pub plan_verdict_lem : {c : Case} {p : Plan} → Planned c p → (x : ℕ) → plan_verdict p x ≡ verdict c x
unfolding verdict rule
plan_verdict_lem {c} {p} P x =
    ap (λ (L : Table). made L (nodes_of p) p.root) P.table ∙ ap (λ (N : ℕ → Node). made (table c) N p.root) P.nodes
    ∙ ap (made (table c) (node_at c)) P.root
  where
    made : Table → (ℕ → Node) → ℕ → model.Verdict
    made L N j = record { set = mean L (formula_at N j) none x; rounds = rounds_at L N j }

-- ---- the rows of an accepted case that are left
module _ (f : List ℕ) (x words : ℕ) (s : refusals standard f ≡ sound) where
  pub judging_beyond : ltb x (2 ^ length (read f).labels) ≡ false → judging f x words ≡ refuses 8 0
  unfolding judging replying
  judging_beyond h = rw (s, h)

  pub judging_short : x < 2 ^ length (read f).labels → leb (2 * length (read f).nodes * 2 ^ length (read f).labels) words ≡ false
      → judging f x words ≡ refuses 9 0
  unfolding judging replying
  judging_short h l = rw (s, lt-ltb x (2 ^ length (read f).labels) h, l)
