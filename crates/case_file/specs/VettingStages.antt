-- What each test of vetting answers. The private contracts cite these; the public ones do not.
use Rattle.std.specs.Prelude.{ℕ, Option, Some, None, Result, IfOk, ◌≡◌}
use Rattle.case_model.specs.Rows.{Found, sound, refused}
use Rattle.case_file.specs.EnumNumbers.{found}
use Rattle.case_file.specs.declared.reason.Refusal.{Refusal}
use Rattle.case_file.specs.declared.vetting.Vetting.{Vetting}

-- a test that finds `row`: nothing, and the state is handed on as it is, or the refusal
pub record Went (s : Vetting) (r : Result Vetting Refusal) (row : Found) : Type 0 where
  pub finds : found r ≡ row
  pub kept : IfOk r (λ v. v ≡ s)

-- clause 7.2: what a search for the lowest wrong place finds, as refusal k
abbrev pub refused_at : ℕ → Option ℕ → Found
refused_at k None = sound
refused_at k (Some i) = refused k i
