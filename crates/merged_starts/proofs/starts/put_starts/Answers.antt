-- `merged_starts::starts::put_starts` meets its contract: a byte for a state of the set, else nothing.
use mathlib.Core.Path.{◌≡◌, sym, ◌∙◌}
use native.Mathlib.Omega.{arith}
use Rattle.case_model.specs.Limits.{most_states}
use Rattle.case_model.specs.Merging.{selected}
use Rattle.case_writer.proofs.Runs.{writes_none}
use Rattle.merged_starts.specs.StartSets.{members}
use Rattle.merged_starts.proofs.Members.{state_written, none_written, turn_room}
use Rattle.merged_starts.proofs.starts.put_starts.Goals.{then-holds, else-holds}
use Rattle.merged_starts.proofs.starts.put_starts.Goals as goal

pub loop-s-init : goal.loop-s-init
unfolding selected
loop-s-init c = writes_none _

pub byte-requires : goal.byte-requires
byte-requires c = turn_room _ _ c.loop-s.invariant c.loop-s-test.true c.requires (sym c.holds.ensures ∙ c.if-holds.true)

pub loop-s-preserved : goal.loop-s-preserved
loop-s-preserved c = elim c.if-holds.branch [
  | then-holds w ↦ rw w.output-is (state_written _ _ c.loop-s.invariant (sym c.holds.ensures ∙ w.if-holds.true) w.byte.ensures)
  | else-holds w ↦ rw w.output-is (none_written _ _ c.loop-s.invariant (sym c.holds.ensures ∙ w.if-holds.false))
]

pub returns : goal.returns
unfolding members
returns c =
    let e : c.loop-s.s ≡ most_states = omega arith in
    rw e at c.loop-s.invariant
