-- `case_tests::tests::binder_wrong` meets its contract: `any` finds a lower node that binds the same.
use borrow.Author.Rules.{rules}
use Prim.Native.Nat.{ℕ}
use mathlib.Core.Bool.{Bool}
use Rattle.flc.proofs.Chains.{any_below}
use Rattle.case_model.specs.Case.{read, at, node_at}
use Rattle.case_model.specs.Rows.{binds}
use Rattle.case_tests.proofs.tests.binder_wrong.Goals as goal

pub returns-then-is_binder : goal.returns-then-is_binder
unfolding node_at
returns-then-is_binder c =
    let bound : ℕ → Bool = λ i. binds (at (read c.args.file.now).nodes i) c.node-t.result.1 in
    let found = any_below c.any.result c.args.j bound c.any.ensures.ran (λ x b q k. search rules) in
    rw (← c.node-t.ensures.is, ← c.is_binder.ensures, c.if-is_binder.true) found

pub returns-else-is_binder : goal.returns-else-is_binder
unfolding node_at
returns-else-is_binder c = rw (← c.node-t.ensures.is, ← c.is_binder.ensures, c.if-is_binder.false)
