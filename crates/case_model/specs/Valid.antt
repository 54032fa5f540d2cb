-- What a case is that none of refusals 2 to 7 meets, part by part: docs/SPECIFICATION.md, section 8. The contracts of the code behind the entries cite it.
use Rattle.std.specs.Prelude.{ℕ, ◌≤◌, ◌<◌, true, false, ◌≡◌, length}
use Rattle.case_model.specs.Limits.{Limits, most_nodes}
use Rattle.case_model.specs.Kinds.{node_holds}
use Rattle.case_model.specs.Case.{Case, at}
use Rattle.case_model.specs.Rows.{step_wrong, start_wrong, binder_wrong, root_closed}

-- clauses 8.4 to 8.7, of the rule; the root says that there is a node
pub record ValidRule (c : Case) : Type 0 where
  pub most : length c.nodes ≤ most_nodes
  pub root : c.root < length c.nodes
  pub kinds : (j : ℕ) → j < length c.nodes → node_holds j (at c.nodes j) ≡ true
  pub binders : (j : ℕ) → j < length c.nodes → binder_wrong c j ≡ false
  pub closed : root_closed c ≡ true

-- clauses 8.2 and 8.3, of a table of at most so many states
pub record ValidTable (most : ℕ) (c : Case) : Type 0 where
  pub some : 1 ≤ length c.labels
  pub few : length c.labels ≤ most
  pub steps : (i : ℕ) → i < length c.steps → step_wrong c i ≡ false

pub record Valid (most : Limits) (c : Case) : Type 0 where
  pub rule : ValidRule c
  pub table : ValidTable most.states c
  -- clause 8.4, of the start states
  pub starts : (i : ℕ) → i < length c.starts → start_wrong c i ≡ false
