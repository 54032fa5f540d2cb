-- No case is longer than the limit, and one is as long: sixteen states, all of them start states, every step that there can be, 64 nodes, padded.
-- The lengths of the sections add up, with three bytes between two of them at most.
use Prim.Native.Nat.{ℕ, suc, ◌*◌, ◌/◌, ◌≤◌, ◌<◌}
use mathlib.Core.Bool.{true, false}
use mathlib.Core.List.{List, []}
use mathlib.Core.Path.{◌≡◌, refl, ◌∙◌}
use native.Mathlib.Omega.{arith}
use borrow.Author.Tests.{lt-ltb}
use lib.Dec.{ltb}
use lib.ListN.{length, replicate, length-replicate, get_or-replicate}
use Rattle.case_model.specs.Limits.{Limits, most_states, standard}
use Rattle.case_model.specs.Bytes.{list_of, byte_at, size, pairs_hold, section}
use Rattle.case_model.specs.Case.{Case, triple_at, read, parts, write, at, node_at, rule}
use Rattle.case_model.specs.Longest.{LongestCase}
use Rattle.flc.specs.Sets.{both, for_all}
use Rattle.flc.specs.Formula.{free}
use Rattle.flc.specs.Nodes.{lower, formula_at}
use Rattle.case_model.specs.Kinds.{Triple, kinds, kind_at}
use Rattle.case_model.specs.Merging.{numbered}
use Rattle.case_model.specs.Padding.{Padded}
use Rattle.case_model.specs.Rows.{sound, step_wrong, start_wrong, root_closed, refusals}
use Rattle.case_model.specs.Valid.{Valid}
use Rattle.case_model.proofs.Sections.{section-length, head_first, section_gap, last_end}
use Rattle.case_model.proofs.Lists.{length-list_of, get_or-list_of}
use Rattle.case_model.proofs.Valid.{accepted_pairs, steps_whole, rule_whole, accepted_valid}
use Rattle.case_model.proofs.Order.{in_order_lem}
use Rattle.case_model.proofs.Steps.{InRange, steps_few}
use Rattle.case_model.proofs.Starts.{starts_few}
use Rattle.case_model.proofs.StepOrder.{steps_right}
use Rattle.case_model.proofs.Accepting.{write_short, valid_accepted}
use Rattle.case_model.proofs.Codec.{packed-size, size_steps, size-rule}
use Rattle.case_model.proofs.Padding.{sizes, refusals_same}
use Rattle.case_model.proofs.Padded.{any_padding}

-- ---- no case is longer
most_bytes : (f : List ℕ) (allowed : ℕ) → refusals (record { longest = allowed; states = most_states }) f ≡ sound → length f ≤ standard.longest
most_bytes f allowed ok =
    let limits : Limits = record { longest = allowed; states = most_states } in
    let e : pairs_hold limits f ≡ true = accepted_pairs limits f ok in
    let valid : Valid limits (read f) = accepted_valid limits f ok in
    omega (
      arith,
      head_first limits f e,
      section_gap limits f e 0 (omega arith),
      section_gap limits f e 1 (omega arith),
      section_gap limits f e 2 (omega arith),
      last_end limits f e,
      section-length f 0,
      length-list_of (size f 1 / 3) (λ i. triple_at (section f 1) (3 * i)),
      length-list_of (size f 2 / 3) (λ i. triple_at (section f 2) (3 * i)),
      section-length f 3,
      steps_whole limits f ok,
      rule_whole limits f ok,
      valid.table.few,
      steps_few valid.table,
      valid.rule.most,
      starts_few valid,
    )

-- ---- one case is as long
fullest : Case
fullest = record { labels = replicate 16 0; steps = list_of 2048 numbered; nodes = replicate 64 (5, 0, 0); root = 0; starts = list_of 16 (λ s. s) }

labels_16 : length fullest.labels ≡ 16
unfolding fullest
labels_16 = length-replicate {A = ℕ} 16 0

steps_2048 : length fullest.steps ≡ 2048
unfolding fullest
steps_2048 = length-list_of 2048 numbered

nodes_64 : length fullest.nodes ≡ 64
unfolding fullest
nodes_64 = length-replicate {A = Triple} 64 (5, 0, 0)

starts_16 : length fullest.starts ≡ 16
unfolding fullest
starts_16 = length-list_of 16 (λ s. s)

-- its elements
step_at : (i : ℕ) → i < 2048 → at fullest.steps i ≡ numbered i
unfolding fullest
step_at i h = get_or-list_of 2048 numbered (0, 0, 0) i h

node_at_lem : (j : ℕ) → j < 64 → at fullest.nodes j ≡ (5, 0, 0)
unfolding fullest
node_at_lem j h = get_or-replicate 64 j (5, 0, 0) (0, 0, 0) h

start_at : (i : ℕ) → i < 16 → byte_at fullest.starts i ≡ i
unfolding fullest
start_at i h = get_or-list_of 16 (λ s. s) 0 i h

-- its steps are in range, and in the order of their numbers
in_range : (i : ℕ) → i < 2048 → InRange 16 (numbered i)
in_range i h = record { from = omega arith; action = omega arith; to = omega arith }

step_right : (i : ℕ) → i < length fullest.steps → step_wrong fullest i ≡ false
step_right = steps_right fullest (omega (arith, labels_16))
    (λ i h. rw (labels_16, step_at i (omega (arith, steps_2048))) (in_range i (omega (arith, steps_2048))))
    (λ i h. rw (step_at i (omega (arith, steps_2048)), step_at (suc i) (omega (arith, steps_2048))) (omega arith))

start_right : (i : ℕ) → i < length fullest.starts → start_wrong fullest i ≡ false
start_right = in_order_lem (λ s. ltb s (length fullest.labels)) ltb (byte_at fullest.starts) (length fullest.starts)
    (λ i h. rw (start_at i (omega (arith, starts_16))) (lt-ltb i (length fullest.labels) (omega (arith, starts_16, labels_16))))
    (λ i h. rw (start_at i (omega (arith, starts_16)), start_at (suc i) (omega (arith, starts_16))) (lt-ltb i (suc i) (omega arith)))

fullest_valid : Valid standard fullest
unfolding root_closed rule formula_at lower node_at kind_at kinds free for_all both
fullest_valid = record {
  rule = record {
    most = omega (arith, nodes_64);
    root = unfold fullest in omega (arith, nodes_64);
    kinds = λ j h. rw (node_at_lem j (omega (arith, nodes_64)));
    binders = λ j h. rw (node_at_lem j (omega (arith, nodes_64)));
    closed = unfold fullest in refl;
  };
  table = record { some = omega (arith, labels_16); few = omega (arith, labels_16); steps = step_right };
  starts = start_right;
}

-- padded, it takes 16 + 16 + 3 + 3 · 2048 + 3 + 193 + 3 + 16 bytes
full_length : (p : Padded fullest 3 3 3) → length p.file ≡ standard.longest
unfolding write
full_length p =
    omega (
      arith,
      head_first standard p.file p.aside.one,
      p.first,
      p.second,
      p.third,
      last_end standard p.file p.aside.one,
      sizes p.aside 0 (omega arith) ∙ packed-size (parts fullest) 0 (omega arith) ∙ labels_16,
      sizes p.aside 1 (omega arith) ∙ size_steps fullest,
      steps_2048,
      sizes p.aside 2 (omega arith) ∙ size-rule fullest,
      nodes_64,
      sizes p.aside 3 (omega arith) ∙ packed-size (parts fullest) 3 (omega arith) ∙ starts_16,
    )

pub longest_case : LongestCase standard.longest
longest_case =
    let p : Padded fullest 3 3 3 = any_padding fullest 3 3 3 fullest_valid (omega arith) (omega arith) (omega arith) in
    record {
      most = most_bytes;
      packed = write_short;
      file = p.file;
      accepted = refusals_same p.aside ∙ valid_accepted fullest fullest_valid;
      long = full_length p;
    }
