-- Rewriting by a law keeps what every node means, and a valid rule valid.
-- The same meaning is a lawful relation, and so is having no new free variable: the root stays closed.
use Prim.Native.Nat.{ℕ, ◌^◌, ◌≤◌, ◌<◌}
use mathlib.Core.Bool.{true}
use mathlib.Core.List.{List}
use mathlib.Core.Path.{◌≡◌, subst}
use lib.Dec.{not_T}
use lib.ListN.{length}
use Rattle.flc.specs.Formula.{mean, none, free}
use Rattle.flc.specs.Nodes.{formula_at}
use Rattle.flc.proofs.Tests.{for_all_mk}
use Rattle.flc.proofs.Meanings.{none_good}
use Rattle.flc.proofs.Laws.{Same}
use Rattle.case_model.specs.Case.{Case, table, node_at, rule}
use Rattle.case_model.specs.Kinds.{Triple}
use Rattle.case_model.specs.Rows.{root_closed}
use Rattle.case_model.specs.Limits.{Limits, most_nodes, variables}
use Rattle.case_model.specs.Rewriting.{swap, change, rewrite}
use Rattle.case_model.proofs.Tests.{is_true}
use Rattle.case_model.proofs.Nodes.{closed_all}
use Rattle.case_model.specs.Valid.{ValidRule, Valid}
use Rattle.case_model.proofs.Lawful.{same_lawful, Frees, frees_lawful}
use Rattle.case_model.proofs.Swapped.{Fit, became_lt, new_kinds, new_binders, kept}
use Rattle.case_model.proofs.NineLaws.{Brings, the_fit, brings}

module _ {c : Case} (valid : ValidRule c) (law j : ℕ) {l : List Triple} {g : ℕ → ℕ} (is : change c.nodes law j ≡ swap l g) where
  -- what the law brings
  fit : Fit c j l g
  fit = the_fit (subst (Brings c j) is (brings valid j law))

  -- every node means what it meant
  pub rewrite-kept : (i : ℕ) → i < length c.nodes → Same (table c) (formula_at (node_at c) i) (formula_at (node_at (rewrite c j (swap l g))) (g i))
  rewrite-kept = kept valid fit (same_lawful (table c))

  -- so the root's function is the same at every set
  pub rewrite-holds : (x : ℕ) → x < 2 ^ length c.labels
      → mean (table c) (rule c) none x ≡ mean (table (rewrite c j (swap l g))) (rule (rewrite c j (swap l g))) none x
  unfolding table rule rewrite
  rewrite-holds = rewrite-kept c.root valid.root none (none_good (length c.labels))

  -- the root has no new free variable, so none
  root_frees : Frees (rule c) (rule (rewrite c j (swap l g)))
  unfolding rule rewrite
  root_frees = kept valid fit frees_lawful c.root valid.root

  root_closed_lem : root_closed (rewrite c j (swap l g)) ≡ true
  unfolding root_closed
  root_closed_lem = is_true _ (for_all_mk variables _ (λ v h. not_T (free v (rule (rewrite c j (swap l g)))) (λ t. closed_all valid v (root_frees v t))))

  -- unless it has too many nodes (clause 8.12), the new rule is valid
  rewrite_valid : length (rewrite c j (swap l g)).nodes ≤ most_nodes → ValidRule (rewrite c j (swap l g))
  rewrite_valid few = record {
    most = few;
    root = unfold rewrite in became_lt valid fit c.root valid.root;
    kinds = new_kinds valid fit;
    binders = new_binders valid fit;
    closed = root_closed_lem;
  }

-- and so is the new case, whose table is the old one
pub rewritten_valid : {most : Limits} {c : Case} → Valid most c → (law j : ℕ) {l : List Triple} {g : ℕ → ℕ} → change c.nodes law j ≡ swap l g
    → length (rewrite c j (swap l g)).nodes ≤ most_nodes → Valid most (rewrite c j (swap l g))
rewritten_valid valid law j is few =
    let t = valid.table in
    record {
      rule = rewrite_valid valid.rule law j is few;
      table = record { some = unfold rewrite in t.some; few = unfold rewrite in t.few; steps = unfold rewrite in t.steps };
      starts = unfold rewrite in valid.starts;
    }
