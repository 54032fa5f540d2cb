-- `case_tests::pairs::padding` meets its contract, test by test.
use borrow.Author.Rules.{rules}
use Prim.Native.Nat.{ℕ, ◌+◌}
use mathlib.Core.Bool.{Bool}
use lib.Dec.{eqb}
use Rattle.flc.proofs.Chains.{all_below}
use Rattle.case_model.specs.Bytes.{byte_at, padding}
use Rattle.case_tests.proofs.pairs.padding.Goals as goal

pub returns-then-near : goal.returns-then-near
unfolding padding
returns-then-near c =
    let a = c.args in
    let zero : ℕ → Bool = λ i. eqb (byte_at a.file.now (a.from + i)) 0 in
    let told = all_below c.all.result c.saturating_sub-gap.result zero c.all.ensures.ran (λ x b q k. search rules) in
    rw (← c.saturating_sub-gap.ensures, c.if-near.true) told

pub returns-else-near : goal.returns-else-near
unfolding padding
returns-else-near c = rw (← c.saturating_sub-gap.ensures, c.if-near.false)
