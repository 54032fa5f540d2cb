-- The sections of the merged case are parts of the file, the steps of the rows and the states of the set, and the lengths add up to that of the new file.
-- Labels are a front and a back of the label section; the rule section is copied whole.
use mathlib.Core.List.{List, [], ◌∷◌, ◌++◌}
use mathlib.Core.Path.{◌≡◌, refl, sym, ap, ap₂, ◌∙◌}
use Prim.Native.Nat.{ℕ, zero, suc, ◌+◌, ◌*◌, ◌-◌, ◌/◌, ◌≤◌}
use native.Mathlib.Nat.{not-suc-le-zero, le_of_suc-le-suc}
use native.Mathlib.Omega.{arith}
use lib.ListN.{length, take, drop, length-append, length-drop}
use lib.Seq.{length-take-le}
use Rattle.case_model.specs.Limits.{standard}
use Rattle.case_model.specs.Bytes.{list_of, byte_at, offset, size, section, pairs}
use Rattle.case_model.specs.Case.{Case, read, flat, write}
use Rattle.case_model.specs.Rows.{sound, refusals}
use Rattle.case_model.specs.Replies.{Counts, Accepted}
use Rattle.case_model.specs.Merging.{moved_steps, in_order, merge}
use Rattle.case_model.proofs.Lists.{length-list_of, list_of_ext, list_of-part}
use Rattle.case_model.proofs.Sections.{section-length, section-after, within}
use Rattle.case_model.proofs.SectionBytes.{rule_bytes_lem}
use Rattle.case_model.proofs.Valid.{accepted_pairs, rule_whole, accepted_valid}
use Rattle.case_model.specs.Valid.{Valid}
use Rattle.case_model.proofs.Codec.{length-flat, length-write}
use Rattle.case_model.proofs.Starts.{start_in}
use Rattle.case_reader.specs.StepRows.{relation, StepRows}
use Rattle.case_writer.specs.Writing.{Writes, whole}
use Rattle.case_writer.proofs.Packing.{ended, next, writes_packed}
use Rattle.case_writer.proofs.Runs.{writes_after, writes_as}
use Rattle.merged_file.specs.Merged.{Named, Measured, new_file}
use Rattle.case_writer.specs.declared.sizes.Sizes.{Sizes}
use Rattle.case_writer.specs.declared.output.Output.{Output}
use Rattle.merged_starts.specs.StartSets.{start_set, Small, members}
use Rattle.merged_starts.proofs.Members.{members_merged, members_few}
use Rattle.merged_steps.specs.declared.rows.Pair.{Pair}
use Rattle.merged_steps.proofs.Relations.{rows_order, carried_all, order_few}

-- ---- a front and a back of a list of values
take-list_of : (r n : ℕ) (h : ℕ → ℕ) → r ≤ n → take r (list_of n h) ≡ list_of r h
unfolding list_of
take-list_of zero n h l = refl
take-list_of (suc r) zero h l = absurd (not-suc-le-zero l)
take-list_of (suc r) (suc n) h l = ap (λ k. h zero ∷ k) (take-list_of r n (λ i. h (suc i)) (le_of_suc-le-suc l))

drop-list_of : (r n : ℕ) (g h : ℕ → ℕ) → ((i : ℕ) → h (r + i) ≡ g i) → drop r (list_of n h) ≡ list_of (n - r) g
unfolding list_of
drop-list_of zero n g h e =
    let z : n - 0 ≡ n = omega arith in
    rw z (list_of_ext n h g (λ i _. let q : 0 + i ≡ i = omega arith in rw q at (e i)))
drop-list_of (suc r) zero g h e = let z : 0 - suc r ≡ 0 = omega arith in rw z
drop-list_of (suc r) (suc n) g h e =
    let z : suc n - suc r ≡ n - r = omega arith in
    rw z (drop-list_of r n g (λ i. h (suc i)) (λ i. let q : suc (r + i) ≡ suc r + i = omega arith in rw q (e i)))

-- ---- an accepted file
-- n bytes of f from `from` on, byte by byte and as a slice of f
unfoldable part : List ℕ → ℕ → ℕ → List ℕ
part f from n = list_of n (λ i. byte_at f (from + i))

slice_is : (f : List ℕ) {from at n k : ℕ} → from ≡ at → n ≡ k → at + k ≤ length f → take n (drop from f) ≡ part f at k
unfolding part
slice_is f {at = at} {k = k} e q h = ap₂ (λ m i. take m (drop i f)) q e ∙ sym (list_of-part f at k 0 h)

nodes_length : (f : List ℕ) → length (read f).nodes ≡ size f 2 / 3
nodes_length f = length-list_of (size f 2 / 3) _

module _ (f : List ℕ) (r : ℕ) (inside : r ≤ length (read f).labels) where
  labels_are : part f (offset f 0) r ++ part f (offset f 0 + r + 1) (length (read f).labels - suc r)
      ≡ take r (read f).labels ++ drop (suc r) (read f).labels
  unfolding part section
  labels_are =
      let n : length (read f).labels ≡ size f 0 = section-length f 0 in
      let m : length (read f).labels - suc r ≡ size f 0 - suc r = omega arith in
      let above : ℕ → ℕ = λ i. byte_at f (offset f 0 + r + 1 + i) in
      sym (ap₂ ◌++◌ (take-list_of r (size f 0) _ (omega arith))
      (drop-list_of (suc r) (size f 0) above _ (λ i. ap (byte_at f) (place (offset f 0) i)) ∙ ap (λ k. list_of k above) (sym m)))
    where
      place : (o i : ℕ) → o + (suc r + i) ≡ o + r + 1 + i
      place o i = omega arith

module _ (f : List ℕ) (accepted : refusals standard f ≡ sound) where
  rule_is : part f (offset f 2) (size f 2) ≡ flat (read f).nodes ++ ((read f).root ∷ [])
  unfolding part section
  rule_is = rule_bytes_lem f (rule_whole standard f accepted)

  rule-size : length (flat (read f).nodes ++ ((read f).root ∷ [])) ≡ size f 2
  rule-size = ap length (sym (rule_bytes_lem f (rule_whole standard f accepted))) ∙ section-length f 2

-- ---- the merged case
module _ {f : List ℕ} {p : Pair} {rows : List ℕ} {set : ℕ} {z : Sizes} (m : Measured f p rows set z) where
  c : Case
  c = merge (read f) p.kept p.removed

  valid : Valid standard (read f)
  valid = accepted_valid standard f m.accepted

  states : length c.labels ≡ p.removed + (length (read f).labels - suc p.removed)
  unfolding c merge
  states = simp (length-append, length-take-le p.removed (read f).labels m.removed, length-drop)

  steps : in_order 2048 (relation rows) ≡ c.steps
  unfolding c merge
  steps = rows_order m.marks

  step_bytes : length (flat c.steps) ≡ z.steps
  step_bytes = ap (λ l. length (flat l)) (sym steps) ∙ length-flat (in_order 2048 (relation rows)) ∙ sym m.steps

  starts : members set ≡ c.starts
  unfolding c
  starts = ap members m.set_is ∙ members_merged (read f) p

  pub total_is : whole z ≡ length (new_file f p)
  unfolding c
  total_is =
      let e : length c.nodes ≡ length (read f).nodes = unfold merge in refl in
      omega (
        arith,
        length-write c,
        states,
        ap length steps,
        ap length starts,
        m.labels,
        m.steps,
        m.rule,
        m.starts,
        nodes_length f,
        rule_whole standard f m.accepted,
      )

  abbrev sizes : List ℕ
  sizes = z.labels ∷ z.steps ∷ z.rule ∷ z.starts ∷ []

  -- each part lies within the file, and the sizes are small
  pub record Within : Type 0 where
    pub first : offset f 0 + length (read f).labels + 2 ≤ length f
    pub last : offset f 2 + size f 2 ≤ length f
    pub few : length (read f).labels ≤ 16
    pub steps_few : length (in_order 2048 (relation rows)) ≤ 2048
    pub rule_few : size f 2 ≤ 193
    pub starts_few : length (members set) ≤ 16

  pub fits : Within
  fits =
      let ok = accepted_pairs standard f m.accepted in
      let one = rule_whole standard f m.accepted in
      let node : 1 ≤ size f 2 / 3 = omega (arith, nodes_length f, valid.rule.root) in
      record {
        first = omega (arith, section-after standard f ok 0 2 (omega arith) (omega arith), within standard f ok 2 (omega arith), section-length f 0, node);
        last = within standard f ok 2 (omega arith);
        few = valid.table.few;
        steps_few = order_few (relation rows) 2048;
        rule_few = omega (arith, valid.rule.most, nodes_length f, one);
        starts_few = members_few set;
      }

  pub merged_written : {o q r t u v w : Output} (from rule below above all : ℕ) → from ≡ offset f 0 → rule ≡ offset f 2
      → below ≡ p.removed → above ≡ z.labels - p.removed → all ≡ z.rule
      → Writes o q (pairs (4 * length sizes) sizes) → Writes q r (take below (drop from f)) → Writes r t (take above (drop (from + p.removed + 1) f))
      → Writes t u (flat (in_order 2048 (relation rows))) → Writes u v (take all (drop rule f)) → Writes v w (members set) → Writes o w (new_file f p)
  unfolding c write merge
  merged_written from rule below above all i j k l n w1 w2 w3 w4 w5 w6 =
      let g : Within = fits in
      let low : take below (drop from f) ≡ part f (offset f 0) p.removed = slice_is f i k (omega (arith, m.removed)) in
      let high : take above (drop (from + p.removed + 1) f) ≡ part f (offset f 0 + p.removed + 1) (length (read f).labels - suc p.removed) =
      slice_is f (ap (λ x. x + p.removed + 1) i) (omega (arith, m.labels)) (omega (arith, m.removed)) in
      let whole_rule : take all (drop rule f) ≡ part f (offset f 2) (size f 2) = slice_is f j (n ∙ m.rule) (omega arith) in
      writes_packed sizes w1 (next (m.labels ∙ sym states) (writes_as (ap₂ ◌++◌ low high ∙ labels_are f p.removed m.removed) (writes_after w2 w3))
      (next (sym step_bytes) (writes_as (ap flat steps) w4)
      (next (m.rule ∙ sym (rule-size f m.accepted)) (writes_as (whole_rule ∙ rule_is f m.accepted) w5)
      (next (m.starts ∙ ap length starts) (writes_as starts w6) ended))))

-- ---- from what is known before anything is measured
module _ {f : List ℕ} {n : Counts} (ok : Accepted standard f n) {p : Pair} {rows : List ℕ} (h : Named f n p rows) where
  named_valid : Valid standard (read f)
  named_valid = accepted_valid standard f ok.rows

  -- its states have a place in a set
  pub starts_small : Small (read f) p
  starts_small =
      let few = named_valid.table.few in
      record { kept = omega (arith, h.kept, ok.states); starts = λ i l. omega (arith, start_in named_valid i l) }

  pub measured : {set : ℕ} {merged : List ℕ} (z : Sizes) → StepRows (moved_steps p.kept p.removed (in_order 2048 (relation rows))) merged
      → z.labels ≡ p.removed + (n.states - suc p.removed) → z.steps ≡ 3 * length (in_order 2048 (relation merged))
      → z.rule ≡ size f 2 → set ≡ start_set (read f) p → z.starts ≡ length (members set) → Measured f p merged set z
  measured z m i j k e l = record {
    accepted = ok.rows;
    removed = omega (arith, h.removed, ok.states);
    marks = carried_all named_valid.table p.kept p.removed h.steps m;
    labels = omega (arith, ok.states);
    steps = j;
    set_is = e;
    rule = k;
    starts = l;
  }
