-- `judge_kinds::exchange::exchange` meets its contract: the file is copied, and then the kinds are put over it.
use lib.ListN.{length-append}
use native.Mathlib.Omega.{arith}
use Rattle.judge_kinds_model.proofs.Exchange.{front}
use Rattle.judge_kinds.proofs.Copying.{copied}
use Rattle.judge_kinds.proofs.exchange.exchange.Goals as goal

pub put_kinds-requires-clause-file_value : goal.put_kinds-requires-clause-file_value
put_kinds-requires-clause-file_value c =
    (c.requires.0, rw c.copy_from_slice.ensures.after (copied c.args.file.now c.args.kinds.now _))

pub returns-clause-out_after : goal.returns-clause-out_after
returns-clause-out_after c =
    front c.args.kinds.now c.args.file.now c.requires.0 (simp (c.copy_from_slice.ensures.after, length-append) (omega arith)) c.put_kinds.ensures
