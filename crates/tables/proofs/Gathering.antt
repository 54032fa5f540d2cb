-- The states with a step of a group to a state, gathered action by action: one action more is one set more.
use Prim.Native.Nat.{ℕ, ◌+◌, ◌*◌, ◌<◌}
use mathlib.Core.Bool.{cond}
use mathlib.Core.Path.{◌≡◌, refl, sym, ap, ap₂, ◌∙◌}
use native.Mathlib.Numerals.{add-one}
use lib.Bits.{bit_or}
use Rattle.flc.specs.Sets.{both, either, for_some, has, set_of}
use Rattle.flc.specs.Formula.{actions, steps_by}
use Rattle.flc.proofs.Masks.{has-set_of, set_of_lt, or_set_of, set_of_ext, set_of-none, given-has, given_small}
use Rattle.case_model.specs.Limits.{most_states}
use Rattle.case_plan.specs.Plans.{Plan, Sized, table_of}
use Rattle.tables.specs.Tables.{sources_by}
use Rattle.tables.proofs.Sizes.{sources_are}

-- ---- the states with a step to t by the actions below k that are in g
abbrev pub sources_below : Plan → ℕ → ℕ → ℕ → ℕ
sources_below p g t k = set_of p.states (λ s. for_some k (λ a. both (has g a) ((table_of p).step s a t)))

pub below_none : (p : Plan) (g t : ℕ) → 0 ≡ sources_below p g t 0
unfolding for_some
below_none p g t = sym (set_of-none p.states)

pub below_all : (p : Plan) (g t : ℕ) → sources_below p g t actions ≡ sources_by p g t
unfolding steps_by
below_all p g t = refl

module _ {p : Plan} (z : Sized p) (g t : ℕ) (k : t < most_states) (a : ℕ) (l : a < actions) where
  -- one action more
  pub below_more : sources_below p g t (a + 1) ≡ bit_or (sources_below p g t a) (cond (has g a) (p.sources (8 * t + a)) 0)
  unfolding for_some
  below_more =
      let n = p.states in
      let y = p.sources (8 * t + a) in
      let are = sources_are z a t l k in
      let there : (s : ℕ) → s < n → (table_of p).step s a t ≡ has y s = λ s i. sym (ap (λ y. has y s) are ∙ has-set_of n _ s i) in
      ap (sources_below p g t) (add-one a)
      ∙ set_of_ext n _ _ (λ s i. ap₂ either (sym (has-set_of n _ s i)) (ap (both (has g a)) (there s i) ∙ given-has (has g a) y s))
      ∙ sym (or_set_of n (sources_below p g t a) (cond (has g a) y 0) (set_of_lt n _) (given_small (has g a) y n (rw are (set_of_lt n _))))
