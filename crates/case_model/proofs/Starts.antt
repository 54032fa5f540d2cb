-- The start states of a valid case are states, and strictly rising, so there are at most as many of them.
use Prim.Native.Nat.{ℕ, suc, ◌≤◌, ◌<◌}
use borrow.Author.Tests.{ltb-true}
use lib.Dec.{ltb}
use lib.ListN.{length}
use Rattle.case_model.specs.Bytes.{byte_at}
use Rattle.case_model.specs.Limits.{Limits}
use Rattle.case_model.specs.Case.{Case}
use Rattle.case_model.specs.Valid.{Valid}
-- checked first: a slip in a definition is told as a false equation there
use Rattle.case_model.proofs.StartExamples as examples
use Rattle.case_model.proofs.Order.{order_in, order_next, rising_few}

module _ {most : Limits} {c : Case} (valid : Valid most c) where
  pub start_in : (i : ℕ) → i < length c.starts → byte_at c.starts i < length c.labels
  start_in i h = ltb-true _ _ (order_in (λ s. ltb s (length c.labels)) ltb (byte_at c.starts) i (valid.starts i h))

  start_next : (i : ℕ) → suc i < length c.starts → byte_at c.starts i < byte_at c.starts (suc i)
  start_next i h = ltb-true _ _ (order_next (λ s. ltb s (length c.labels)) ltb (byte_at c.starts) i (valid.starts (suc i) h))

  pub starts_few : length c.starts ≤ length c.labels
  starts_few = rising_few (byte_at c.starts) (length c.starts) start_next (length c.labels) start_in
