-- How large the sets of a plan are, and what its state table has, as sets.
-- A set of a plan is below its size, so that it is the set of the states which it has.
use Prim.Native.Nat.{ℕ, ◌+◌, ◌*◌, ◌≤◌, ◌<◌}
use mathlib.Core.Path.{◌≡◌, sym, ◌∙◌}
use native.Mathlib.Omega.{arith}
use borrow.Author.Tests.{lt-ltb}
use lib.Pow.{pow_pos, pow_mono}
use Rattle.flc.specs.Sets.{both, has, set_of}
use Rattle.flc.specs.Formula.{actions}
use Rattle.flc.proofs.Masks.{has-set_of, set_of_ext, set_of-has}
use Rattle.case_model.specs.Limits.{most_states, propositions}
use Rattle.case_plan.specs.Plans.{Plan, Sized, table_of}

module _ {p : Plan} (z : Sized p) where
  pub size_some : (0 < p.size) × (p.size ≤ 65536)
  size_some = omega (arith, z.size, pow_pos p.states, pow_mono {i = p.states} {j = most_states} z.few)

  -- the states that have a proposition
  pub props_are : (i : ℕ) → i < propositions → p.props i ≡ set_of p.states (λ s. has ((table_of p).label s) i)
  props_are i l =
      sym (set_of_ext p.states _ _ (λ s k. has-set_of propositions (λ i. has (p.props i) s) i l)
      ∙ set_of-has p.states (p.props i) (omega (arith, z.props i l, z.size)))

  -- the states with an a-step to t
  pub sources_are : (a t : ℕ) → a < actions → t < most_states → p.sources (8 * t + a) ≡ set_of p.states (λ s. (table_of p).step s a t)
  unfolding both
  sources_are a t l k =
      let q = p.sources (8 * t + a) in
      let there : (s : ℕ) → (table_of p).step s a t ≡ has q s = λ s. rw (lt-ltb a actions l, lt-ltb t most_states k) in
      sym (set_of_ext p.states _ _ (λ s _. there s) ∙ set_of-has p.states q (omega (arith, z.sources (8 * t + a) (omega arith), z.size)))
