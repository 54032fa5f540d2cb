-- In a file of bytes a refusal's place is small: a reply fits in one word.
-- By the rows: a place is where a search stopped, at most as many as there are triples.
use Prim.Native.Nat.{ℕ, ◌+◌, ◌*◌, ◌/◌, ◌^◌, ◌<◌}
use mathlib.Core.Bool.{Bool, true, false}
use mathlib.Core.List.{List}
use native.Mathlib.Omega.{arith}
use lib.Dec.{eqb}
use lib.ListN.{length}
use Rattle.flc.specs.Sets.{first}
use Rattle.flc.proofs.Tests.{first_le}
use Rattle.case_model.specs.Limits.{Limits}
use Rattle.case_model.specs.Bytes.{byte_at, size}
use Rattle.case_model.specs.Case.{triples}
use Rattle.case_model.specs.Rows.{Found, sound, refused, ◌or_else◌, unless, lowest, refusals}
use Rattle.case_model.proofs.Lists.{length-list_of}

pub data Placed : Found → Type 0 where
  nowhere : Placed sound
  somewhere : {k p : ℕ} → p < 2 ^ 32 → Placed (refused k p)

pub then : {a b : Found} → Placed a → Placed b → Placed (a or_else b)
then nowhere q = q
then (somewhere h) q = somewhere h

pub at_zero : (t : Bool) (k : ℕ) → Placed (unless t k 0)
at_zero true k = nowhere
at_zero false k = somewhere {p = 0} (omega arith)

at-lowest : (k : ℕ) (wrong : ℕ → Bool) (c : ℕ) → c < 2 ^ 32 → Placed (lowest k wrong c)
unfolding lowest
at-lowest k wrong c h = go (eqb (first wrong 0 c) c)
  where
    go : (t : Bool) → Placed (unless t k (first wrong 0 c))
    go true = nowhere
    go false = somewhere {p = first wrong 0 c} (omega (arith, first_le wrong 0 c))

pub refusals-placed : (most : Limits) (f : List ℕ) → ((i : ℕ) → byte_at f i < 256) → Placed (refusals most f)
unfolding refusals
refusals-placed most f bytes = search (then, at_zero, at-lowest, few) depth 12
  where
    few : (k : ℕ) → length (triples f k) < 2 ^ 32
    few k = rw (length-list_of (size f k / 3)) (omega (arith, bytes (4 * k + 2), bytes (4 * k + 2 + 1)))
