-- `merged_starts::starts::merged_starts` meets its contract: after i turns the states that stand for the first i start states are gathered.
use Prim.Native.Nat.{◌<◌}
use mathlib.Core.Path.{◌≡◌, ap, ◌∙◌}
use native.Mathlib.Omega.{arith}
use mathlib.Core.List.{map}
use lib.Seq.{take_all}
use Rattle.flc.specs.Sets.{set_of}
use Rattle.case_model.specs.Bytes.{byte_at}
use Rattle.case_model.specs.Case.{read}
use Rattle.case_model.specs.Limits.{most_states}
use Rattle.case_model.specs.Merging.{moved, is_in}
use Rattle.case_model.proofs.MovedStates.{moved_inside}
use Rattle.merged_starts.specs.StartSets.{start_set}
use Rattle.merged_starts.proofs.Members.{none_gathered, gathered_more}
use Rattle.merged_starts.proofs.starts.merged_starts.Goals as goal

pub loop-i-init : goal.loop-i-init
loop-i-init c = none_gathered (moved c.args.pair.kept c.args.pair.removed) (read c.args.file.now).starts

-- the start state, and the one that stands for it, which is added
small : (c : goal.After-moved-t) → let a = c.args in
    (c.moved-t.result ≡ moved a.pair.kept a.pair.removed (byte_at (read a.file.now).starts c.loop-i.i)) × (c.moved-t.result < most_states)
small c =
    let a = c.args in
    let is = c.start-s.ensures.is in
    let old = c.requires.starts c.loop-i.i (omega (arith, c.start_count-i-end.ensures.is, c.loop-i-test.true)) in
    let e = c.moved-t.ensures ∙ ap (moved a.pair.kept a.pair.removed) is in
    (e, rw e (moved_inside a.pair.kept a.pair.removed most_states _ c.requires.kept old))

pub overflow_cast-set : goal.overflow_cast-set
overflow_cast-set c = omega (arith, (small c).1)

pub overflow_shl-set : goal.overflow_shl-set
overflow_shl-set c = omega (arith, (small c).1)

pub loop-i-preserved : goal.loop-i-preserved
loop-i-preserved c =
    gathered_more _ (read c.args.file.now).starts c.loop-i.i _ _ (omega (arith, c.start_count-i-end.ensures.is, c.loop-i-test.true))
    c.loop-i.invariant (small c).0 (small c).1

pub returns : goal.returns
unfolding start_set
returns c =
    let g = moved c.args.pair.kept c.args.pair.removed in
    let l = (read c.args.file.now).starts in
    c.loop-i.invariant ∙ ap (λ m. set_of most_states (is_in (map g m))) (take_all c.loop-i.i l (omega (arith, c.start_count-i-end.ensures.is, c.loop-i-test.false)))
