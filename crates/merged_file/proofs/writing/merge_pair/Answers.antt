-- `merged_file::writing::merge_pair` meets its contract: the lengths add up to that of the new file, so it refuses 13 or lays that file.
use mathlib.Core.Path.{◌≡◌, ap, ◌∙◌}
use mathlib.Core.List.{List}
use Prim.Native.Nat.{ℕ, suc, ◌+◌, ◌*◌, ◌-◌}
use lib.ListN.{length}
use native.Mathlib.Omega.{arith}
use Rattle.case_model.specs.Bytes.{size}
use Rattle.case_model.specs.Case.{read}
use Rattle.case_model.specs.Limits.{standard}
use Rattle.case_model.specs.Merging.{moved_steps, in_order}
use Rattle.case_model.specs.Replies.{Counts, Accepted}
use Rattle.case_file.proofs.Refusals.{of_reason}
use Rattle.case_reader.specs.StepRows.{relation, StepRows}
use Rattle.merged_starts.specs.StartSets.{start_set, members}
use Rattle.merged_steps.specs.declared.rows.Pair.{Pair}
use Rattle.merged_file.specs.Merged.{Measured, Named}
use Rattle.merged_steps.proofs.Relations.{order_few}
use Rattle.merged_file.proofs.MergedBytes.{starts_small, measured, total_is, fits}
use Rattle.merged_file.proofs.Room.{short, answered_count, answered_area}
use Rattle.merged_file.proofs.writing.merge_pair.Goals as goal

-- where every length is known, the sections have them
at_sizes : {f g : List ℕ} {n : Counts} {p : Pair} {before merged : List ℕ} {states set labels steps rule starts : ℕ}
    → Accepted standard f n → Named f n p before → g ≡ f → StepRows (moved_steps p.kept p.removed (in_order 2048 (relation before))) merged
    → states ≡ n.states → labels ≡ p.removed + (states - suc p.removed) → steps ≡ length (in_order 2048 (relation merged))
    → rule ≡ size g 2 → set ≡ start_set (read g) p → starts ≡ length (members set)
    → Measured f p merged set (record { labels = labels; steps = 3 * steps; rule = rule; starts = starts })
at_sizes {p = p} ok h q m e i j k s l =
    measured ok h _ m (omega (arith, e, i)) (ap (λ k. 3 * k) j) (k ∙ ap (λ f. size f 2) q) (s ∙ ap (λ f. start_set (read f) p) q) l

pub merged_starts-starts-requires : goal.merged_starts-starts-requires
merged_starts-starts-requires c = rw c.file-file.ensures (starts_small c.args.case.accepted c.requires)

pub overflow_mul-sizes : goal.overflow_mul-sizes
overflow_mul-sizes c = omega (arith, order_few)

pub whole-all-requires : goal.whole-all-requires
whole-all-requires c =
    let m = at_sizes c.args.case.accepted c.requires (ap (λ r. r.now) c.file-file.ensures) c.merged_rows-rows.ensures c.states.ensures c.labels_left.ensures
    c.count.ensures c.section_size-rule.ensures.is c.merged_starts-starts.ensures c.count-2.ensures in
    let g = fits m in
    omega (arith, m.labels, m.steps, m.rule, m.starts)

pub returns-then-out-all : goal.returns-then-out-all
returns-then-out-all c =
    let m = at_sizes c.args.case.accepted c.requires (ap (λ r. r.now) c.file-file.ensures) c.merged_rows-rows.ensures c.states.ensures c.labels_left.ensures
    c.count.ensures c.section_size-rule.ensures.is c.merged_starts-starts.ensures c.count-2.ensures in
    let e = short c.args.case.file.now c.args.out.now c.args.pair _ (c.whole-all.ensures ∙ total_is m) c.if-out-all.true in
    record { result_value = rw e (of_reason c.into.result c.into.ensures); out_after = rw e }

pub write_merged-requires : goal.write_merged-requires
write_merged-requires c =
    let m = at_sizes c.args.case.accepted c.requires (ap (λ r. r.now) c.file-file.ensures) c.merged_rows-rows.ensures c.states.ensures c.labels_left.ensures
    c.count.ensures c.section_size-rule.ensures.is c.merged_starts-starts.ensures c.count-2.ensures in
    (rw c.file-file.ensures m, omega (arith, c.whole-all.ensures, c.if-out-all.false))

pub returns : goal.returns
returns c =
    let m = at_sizes c.args.case.accepted c.requires (ap (λ r. r.now) c.file-file.ensures) c.merged_rows-rows.ensures c.states.ensures c.labels_left.ensures
    c.count.ensures c.section_size-rule.ensures.is c.merged_starts-starts.ensures c.count-2.ensures in
    let e = c.whole-all.ensures ∙ total_is m in
    record {
      result_value = answered_count c.args.case.file.now c.args.out.now c.args.pair _ e c.if-out-all.false;
      out_after = answered_area c.args.case.file.now c.args.out.now c.args.pair _ e c.if-out-all.false (rw c.file-file.ensures at c.write_merged.ensures);
    }
