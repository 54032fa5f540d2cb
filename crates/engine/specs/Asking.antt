-- What an entry over the tables asks of a plan: room for the run, and a set of the case's states. The contracts of the code behind the entries cite it.
use Rattle.std.specs.Prelude.{ℕ, ◌<◌}
use Rattle.case_plan.specs.Plans.{Plan}
use Rattle.engine.specs.Computing.{Runnable}

pub record Asked (p : Plan) (x words : ℕ) : Type 0 where
  pub runnable : Runnable p words
  pub inside : x < p.size
