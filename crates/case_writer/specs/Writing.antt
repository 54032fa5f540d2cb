-- What is written to an output, and how many bytes sections have together: docs/SPECIFICATION.md, clause 1.15.
use Rattle.std.specs.Prelude.{ℕ, ◌+◌, ◌*◌, List, [], ◌∷◌, ◌≡◌}
use Rattle.case_model.specs.Areas.{Laid}
use Rattle.case_model.specs.Limits.{sections}
use Rattle.case_writer.specs.declared.output.Output.{Output}
use Rattle.case_writer.specs.declared.sizes.Sizes.{Sizes}

-- clause 1.15: a run of bytes is written where the output stood, in the same area, and the output stands behind it
pub record Writes (before after : Output) (l : List ℕ) : Type 0 where
  pub same_area : after.area.ghost_name ≡ before.area.ghost_name
  pub laid : Laid before.area.now after.area.now before.at after.at l

-- clause 1.15: the sum of lengths
abbrev pub total : List ℕ → ℕ
total [] = 0
total (n ∷ l) = n + total l

-- clause 1.15: the length of a file with sections of these sizes
abbrev pub whole : Sizes → ℕ
whole z = 4 * sections + z.labels + z.steps + z.rule + z.starts
