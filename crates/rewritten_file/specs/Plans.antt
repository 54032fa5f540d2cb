-- The case that a plan makes of a file, when a plan is right, and how long the new file and its sections are.
use Rattle.std.specs.Prelude.{ℕ, ◌≤◌, ◌<◌, List, [], ◌∷◌, ◌++◌, ◌≡◌, length}
use Rattle.case_model.specs.Bytes.{byte_at, section}
use Rattle.case_model.specs.Case.{Case, read, flat, write}
use Rattle.case_model.specs.Rows.{sound, refusals}
use Rattle.case_model.specs.Limits.{most_nodes, standard}
use Rattle.case_model.specs.Rewriting.{swap, change, rewrite}
use Rattle.case_reader.specs.declared.parts.Triple.{Triple}
use Rattle.case_writer.specs.Writing.{whole}
use Rattle.case_writer.specs.declared.sizes.Sizes.{Sizes}
use Rattle.law_shapes.specs.Shapes.{placed, named}
use Rattle.rewritten_file.specs.declared.plan.Plan.{Plan}

-- clause 1.1: a triple of bytes
pub record ByteTriple (t : Triple) : Type 0 where
  pub first : t.0 < 256
  pub second : t.1 < 256
  pub third : t.2 < 256

-- clause 5.1: the new case
abbrev pub renewed : List ℕ → Plan → Case
renewed f p = rewrite (read f) p.j (swap (placed p.shape) (named p.j p.shape))

-- clause 1.6: the rule of a case, as bytes
abbrev pub rule_bytes : Case → List ℕ
rule_bytes c = flat c.nodes ++ (c.root ∷ [])

-- clauses 5.1 and 8.12: the file is an accepted one, the plan is that of a law whose shape is there, and the new nodes are few enough
pub record Planned (f : List ℕ) (p : Plan) : Type 0 where
  pub accepted : refusals standard f ≡ sound
  pub bytes : (i : ℕ) → byte_at f i < 256
  pub law : ℕ
  pub is : change (read f).nodes law p.j ≡ swap (placed p.shape) (named p.j p.shape)
  pub nodes : p.nodes ≡ length (renewed f p).nodes
  pub few : p.nodes ≤ most_nodes

-- clause 1.15: the lengths of the new file and of its sections, of which all but the rule stay
pub record Measured (f : List ℕ) (p : Plan) (z : Sizes) : Type 0 where
  pub labels : z.labels ≡ length (section f 0)
  pub steps : z.steps ≡ length (section f 1)
  pub rule : z.rule ≡ length (rule_bytes (renewed f p))
  pub starts : z.starts ≡ length (section f 3)
  pub all : whole z ≡ length (write (renewed f p))
