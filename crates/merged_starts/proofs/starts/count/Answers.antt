-- `merged_starts::starts::count` meets its contract: there are as many states as bits.
use mathlib.Core.Path.{sym}
use native.Mathlib.Omega.{arith}
use Rattle.merged_starts.specs.StartSets.{members}
use Rattle.merged_steps.proofs.Counting.{selected-ones}
use Rattle.merged_starts.proofs.starts.count.Goals as goal

pub returns : goal.returns
unfolding members
returns c = sym (selected-ones (λ s. s) 16 c.args.set (omega (arith, c.ranges.set)))
