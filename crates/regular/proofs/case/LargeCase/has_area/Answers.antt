-- `regular::case::LargeCase::has_area` meets its contract: a quotient by 64 tells how many blocks there are.
use Prim.Native.Nat.{ℕ, ◌*◌, ◌/◌}
use mathlib.Core.Path.{◌≡◌}
use native.Mathlib.Decide.{dec_lt}
use native.Mathlib.Omega.{arith}
use borrow.Author.Tests.{le-leb, lt-leb}
use lib.Dec.{leb}
use Rattle.regular.proofs.case.LargeCase.has_area.Goals as goal

blocks-fit : (m bytes : ℕ) → leb m (bytes / 64) ≡ leb (64 * m) bytes
blocks-fit m bytes = elim (dec_lt (bytes / 64) m) [
  | no h ↦ rw (le-leb m (bytes / 64) (omega arith), le-leb (64 * m) bytes (omega arith))
  | yes h ↦ rw (lt-leb m (bytes / 64) h, lt-leb (64 * m) bytes (omega arith))
]

pub returns : goal.returns
returns c = let a = c.args in blocks-fit a.self.counts.nodes a.bytes
