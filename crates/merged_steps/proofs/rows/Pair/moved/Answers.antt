-- `merged_steps::rows::Pair::moved` meets its contract, by cases.
use mathlib.Core.Path.{refl}
use borrow.Author.Tests.{eq-eqb, ne_eqb, lt-ltb, le-ltb}
use Rattle.case_model.specs.Merging.{moved}
use Rattle.merged_steps.proofs.rows.Pair.moved.Goals as goal

pub returns-then-s-self : goal.returns-then-s-self
unfolding moved
returns-then-s-self c = simp (eq-eqb _ _ c.if-s-self.true) refl

pub returns-then-self-s : goal.returns-then-self-s
unfolding moved
returns-then-self-s c = simp (ne_eqb _ _ c.if-s-self.false, lt-ltb _ _ c.if-self-s.true)

pub returns-else-self-s : goal.returns-else-self-s
unfolding moved
returns-else-self-s c = simp (ne_eqb _ _ c.if-s-self.false, le-ltb _ _ c.if-self-s.false)
