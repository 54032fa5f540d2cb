-- `judge::entry::answer` meets its contract: after the run the root's table holds its function.
use mathlib.Core.Path.{refl}
use native.Mathlib.Omega.{arith}
use Rattle.engine.proofs.Asking.{word_there}
use Rattle.judge.proofs.Answering.{root_answer}
use Rattle.judge.proofs.entry.answer.Goals as goal

pub run-rounds-requires : goal.run-rounds-requires
run-rounds-requires c = c.requires.runnable

pub overflow_mul-at : goal.overflow_mul-at
overflow_mul-at c =
    omega (arith, word_there c.requires, c.well_formed)

pub overflow_add-at : goal.overflow_add-at
overflow_add-at c =
    omega (arith, word_there c.requires, c.well_formed)

pub offset_bounds-work-at : goal.offset_bounds-work-at
offset_bounds-work-at c =
    omega (arith, word_there c.requires, c.well_formed)

pub bounds-work-at : goal.bounds-work-at
bounds-work-at c =
    omega (arith, word_there c.requires, c.run-rounds.ensures.long)

pub returns : goal.returns
returns c =
    root_answer c.requires c.run-rounds.ensures refl
