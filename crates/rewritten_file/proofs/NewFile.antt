-- The new file, part by part: how long it is, what its parts are, and that they lie there once they are laid one after the other.
-- Labels, steps and start states are sections of the old file; the steps are whole triples, because no refusal was found.
use Prim.Native.Nat.{ℕ, ◌+◌, ◌*◌, ◌≤◌, ◌<◌}
use mathlib.Core.List.{List, [], ◌∷◌}
use mathlib.Core.Path.{◌≡◌, sym, ap, ap₂, ◌∙◌}
use native.Mathlib.Numerals.{add-one}
use native.Mathlib.Omega.{arith}
use lib.ListN.{length, take, drop, length-append}
use Rattle.case_model.specs.Bytes.{list_of, offset, size, section, pairs}
use Rattle.case_model.specs.Case.{triples, write, flat, at}
use Rattle.case_model.specs.Kinds.{Triple}
use Rattle.case_model.specs.Limits.{sections, standard}
use Rattle.case_model.specs.Rewriting.{rewrite}
use Rattle.case_model.specs.Rows.{sound, refusals}
use Rattle.case_model.proofs.Lists.{length-list_of, list_of-get_or, list_of-part, list_of_more}
use Rattle.case_model.proofs.Sections.{within}
use Rattle.case_model.proofs.SectionBytes.{steps_bytes}
use Rattle.case_model.proofs.Valid.{accepted_pairs, steps_whole}
use Rattle.case_model.proofs.Codec.{length-flat, flat_append, length-write}
use Rattle.case_model.proofs.Accepting.{write_short}
use Rattle.case_writer.specs.Writing.{Writes}
use Rattle.case_writer.specs.declared.output.Output.{Output}
use Rattle.case_writer.specs.declared.sizes.Sizes.{Sizes}
use Rattle.case_writer.proofs.Runs.{writes_none, writes_after, writes_as}
use Rattle.case_writer.proofs.Packing.{ended, next, writes_packed}
use Rattle.rewritten_file.specs.Plans.{renewed, rule_bytes, Planned, Measured}
use Rattle.rewritten_file.specs.declared.plan.Plan.{Plan}
use Rattle.rewritten_file.proofs.Renewed.{valid}

-- ---- the parts that stay
pub section_slice : (f : List ℕ) → refusals standard f ≡ sound → (k : ℕ) → k < sections → (start n : ℕ) → start ≡ offset f k → n ≡ size f k
    → take n (drop start f) ≡ section f k
unfolding section
section_slice f ok k h start n e q =
    ap₂ (λ m i. take m (drop i f)) q e ∙ sym (list_of-part f (offset f k) (size f k) 0 (within standard f (accepted_pairs standard f ok) k h))

-- ---- the new nodes, written one by one
-- the first i of them are written
pub record NodesWritten (f : List ℕ) (p : Plan) (o q : Output) (i : ℕ) : Type 0 where
  pub inside : i ≤ p.nodes
  pub written : Writes o q (flat (list_of i (at (renewed f p).nodes)))

pub nodes_none : (f : List ℕ) (p : Plan) (o : Output) → NodesWritten f p o o 0
unfolding list_of
nodes_none f p o = record { inside = omega arith; written = writes_none o }

module _ {f : List ℕ} {p : Plan} {o q : Output} {i : ℕ} (k : NodesWritten f p o q i) where
  -- there is room for a node
  pub nodes_room : i < p.nodes → q.at + 3 ≤ o.at + 3 * p.nodes
  nodes_room l =
      let g : ℕ → Triple = at (renewed f p).nodes in
      omega (arith, k.written.laid.ends, length-flat (list_of i g), length-list_of i g)

  pub nodes_turn : i < p.nodes → {r : Output} (t : Triple) → t ≡ at (renewed f p).nodes i → Writes q r (flat (t ∷ [])) → NodesWritten f p o r (i + 1)
  nodes_turn l {r} t e w =
      let g : ℕ → Triple = at (renewed f p).nodes in
      record {
        inside = omega arith;
        written = rw (add-one i, list_of_more i g, flat_append (list_of i g) (g i ∷ []))
            (writes_after k.written (writes_as (ap (λ (t : Triple). flat (t ∷ [])) e) w));
      }

  pub nodes_all : Planned f p → p.nodes ≤ i → Writes o q (flat (renewed f p).nodes)
  nodes_all h l =
      let N : List Triple = (renewed f p).nodes in
      let e : i ≡ length N = omega (arith, k.inside, h.nodes) in
      writes_as (ap flat (ap (λ n. list_of n (at N)) e ∙ list_of-get_or N (0, 0, 0))) k.written

-- ---- the whole file
module _ {f : List ℕ} {p : Plan} (h : Planned f p) where
  pub rule-length : length (rule_bytes (renewed f p)) ≡ 3 * p.nodes + 1
  rule-length = simp (length-append, length-flat) (omega (arith, h.nodes))

  steps_are : section f 1 ≡ flat (triples f 1)
  steps_are = steps_bytes f (steps_whole standard f h.accepted)

  pub new_length : length (write (renewed f p))
      ≡ 4 * sections + length (section f 0) + length (section f 1) + length (rule_bytes (renewed f p)) + length (section f 3)
  unfolding rewrite
  new_length = omega (arith, length-write (renewed f p), ap length steps_are, length-flat (triples f 1), rule-length, h.nodes)

  -- so its pairs are numbers of two bytes
  pub new_short : length (write (renewed f p)) < 65536
  new_short = omega (arith, write_short (renewed f p) (valid h))

  -- its head, two sections that stay, the rule and the section behind it, written one after the other
  pub new_written : {z : Sizes} → Measured f p z → {o q r t u v : Output}
      → Writes o q (pairs (4 * sections) (z.labels ∷ z.steps ∷ z.rule ∷ z.starts ∷ [])) → Writes q r (section f 0)
      → Writes r t (section f 1) → Writes t u (rule_bytes (renewed f p)) → Writes u v (section f 3) → Writes o v (write (renewed f p))
  unfolding write rewrite
  new_written {z} m head labels steps rule starts =
      writes_packed (z.labels ∷ z.steps ∷ z.rule ∷ z.starts ∷ []) head
      (next m.labels labels
      (next (m.steps ∙ ap length steps_are) (writes_as steps_are steps)
      (next m.rule rule
      (next m.starts starts ended))))
