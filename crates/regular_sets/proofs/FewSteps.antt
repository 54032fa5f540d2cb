-- How many steps a file can have: the length of their section is written in two bytes.
use Prim.Native.Nat.{ℕ, ◌*◌, ◌/◌, ◌<◌}
use mathlib.Core.List.{List}
use native.Mathlib.Omega.{arith}
use lib.ListN.{length, get_or}
use Rattle.case_model.specs.Bytes.{size, section}
use Rattle.case_model.specs.Case.{read, triple_at}
use Rattle.case_model.proofs.Lists.{length-list_of}

pub steps_few : (f : List ℕ) → ((i : ℕ) → get_or f i 0 < 256) → length (read f).steps < 21846
steps_few f small = rw (length-list_of (size f 1 / 3) (λ i. triple_at (section f 1) (3 * i))) (omega (arith, small 6, small 7))
