-- The limits and the searches of the code, as the model has them.
use Rattle.std.specs.Prelude.{ℕ, Bool, Option, Some, None, cond, ltb}
use Rattle.flc.specs.Sets.{first}
use Rattle.case_model.specs.Limits as byModel
use Rattle.case_tests.specs.declared.limits.Limits.{Limits}

abbrev pub limits_of : Limits → byModel.Limits
limits_of l = record { longest = l.longest; states = l.states }

-- clause 7.2: the lowest of n places that are wrong, if there is one
unfoldable pub lowest_of : (ℕ → Bool) → ℕ → Option ℕ
lowest_of wrong n = cond (ltb (first wrong 0 n) n) (Some (first wrong 0 n)) None
