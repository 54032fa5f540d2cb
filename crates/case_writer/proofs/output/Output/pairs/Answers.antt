-- `case_writer::output::Output::pairs` meets its contract: each pair is two words, in the file and with room for it.
use native.Mathlib.Omega.{arith}
use Rattle.case_writer.proofs.Pairs.{pairing_room, pairing_turn}
use Rattle.case_writer.proofs.output.Output.pairs.Goals as goal

pub overflow_cast-offset : goal.overflow_cast-offset
overflow_cast-offset c =
    let r = pairing_room c.loop-size.invariant c.loop-size-test.true in
    omega arith

pub word-requires : goal.word-requires
word-requires c =
    let r = pairing_room c.loop-size.invariant c.loop-size-test.true in
    omega (arith, c.loop-size.invariant.written.laid.long)

pub overflow_cast-size : goal.overflow_cast-size
overflow_cast-size c =
    let r = pairing_room c.loop-size.invariant c.loop-size-test.true in
    omega arith

pub word-requires-in-loop-size : goal.word-requires-in-loop-size
word-requires-in-loop-size c =
    let r = pairing_room c.loop-size.invariant c.loop-size-test.true in
    omega (arith, c.loop-size.invariant.written.laid.long, c.word.ensures.laid.long, c.word.ensures.laid.ends)

pub overflow_add-offset : goal.overflow_add-offset
overflow_add-offset c =
    let r = pairing_room c.loop-size.invariant c.loop-size-test.true in
    omega arith

pub loop-size-preserved : goal.loop-size-preserved
loop-size-preserved c =
    pairing_turn c.loop-size.invariant c.loop-size-test.true c.word.ensures c.word-in-loop-size.ensures
