-- Row 1's tests of what stands between two sections, one after the other; and the searches of rows 3, 5 and 6: the lowest place that is wrong, if there is one.
use Prim.Native.Nat.{ℕ, ◌+◌, ◌-◌, ◌≤◌, ◌<◌}
use mathlib.Core.Bool.{Bool, true, false, cond, ◌&&◌}
use mathlib.Core.List.{List}
use mathlib.Core.Path.{◌≡◌, refl, ap, ◌∙◌}
use native.Mathlib.Omega.{arith}
use borrow.Author.Tests.{lt-ltb, le-ltb}
use denote.Param.Members.{Mut}
use denote.Ref.{Bor}
use lib.Dec.{eqb, ltb}
use lib.ListN.{length}
use Rattle.std.specs.Bool.{⊤}
use Rattle.std.specs.Fn.{CalledAt}
use Rattle.std.specs.Iterator.{YieldsThen}
use Rattle.std.specs.List.{FoldsTo}
use Rattle.std.specs.Option.{MatchOption, unwrap_or}
use Rattle.std.specs.declared.option.Option.{Option}
use Rattle.std.specs.declared.option.Option.TheVariants.{None, Some}
use Rattle.std.specs.declared.ops.Range.{Range}
use Rattle.std.proofs.iter.Yields.{nat_range_steps}
use Rattle.std.proofs.lemmas.Iterator.{first_from_Range}
use Rattle.flc.specs.Sets.{both, for_all, first}
use Rattle.flc.proofs.Chains.{first_below}
use Rattle.case_model.specs.Bytes.{offset, end, padding, chained}
use Rattle.case_model.specs.Limits.{sections}
use Rattle.case_tests.specs.RowTests.{lowest_of}

-- what stands behind section k, with no next section from the last on
abbrev pub padded : List ℕ → ℕ → Bool
padded f k = padding f (end f k) (cond (ltb (k + 1) sections) (offset f (k + 1)) 0)

module _ (f : List ℕ) where
  regrouped : (a b c d : Bool) → (a && (b && (c && d))) ≡ (((true && a) && b) && c && d)
  regrouped true b c d = elim b as (λ b. (b && (c && d)) ≡ ((b && c) && d)) [ true ↦ refl | false ↦ refl ]
  regrouped false b c d = refl

  chained-tests : chained f 0 (sections - 1) ≡ (for_all (sections - 1) (padded f) && eqb (end f (sections - 1)) (length f))
  unfolding chained for_all both
  chained-tests = regrouped (padding f (end f 0) (offset f 1)) (padding f (end f 1) (offset f 2)) (padding f (end f 2) (offset f 3)) (eqb (end f 3) (length f))

  pub chained-padded : for_all (sections - 1) (padded f) ≡ true → chained f 0 (sections - 1) ≡ eqb (end f (sections - 1)) (length f)
  chained-padded e = chained-tests ∙ ap (λ b. b && eqb (end f (sections - 1)) (length f)) e

  pub chained-broken : for_all (sections - 1) (padded f) ≡ false → chained f 0 (sections - 1) ≡ false
  chained-broken e = chained-tests ∙ ap (λ b. b && eqb (end f (sections - 1)) (length f)) e

searched : (n : ℕ) (p : ℕ → Bool) (r : Option ℕ) → unwrap_or r n ≡ first p 0 n
    → MatchOption r ((k : ℕ) → 0 ≤ k → k < n → ⊤) (λ i. (0 ≤ i) × (i < n) × ⊤ × ((k : ℕ) → 0 ≤ k → k < i → ⊤)) → r ≡ lowest_of p n
unfolding lowest_of
searched n p None e h = rw (← e, le-ltb n n (omega arith))
searched n p (Some i) e h = rw (← e, lt-ltb i n (h.1))

pub lowest_below : {F : Type 0} {g : Mut F (Bor ℕ × Unit {0}) Bool} (u : Range ℕ) {f : F} (r : Option ℕ) (n : ℕ) (p : ℕ → Bool)
    → (xs : List ℕ) × (j : F) × YieldsThen nat_range_steps (record { start = 0; end = n }) xs r u × FoldsTo (λ p x q. CalledAt g p x false q) f xs j × MatchOption r ⊤ (λ x. (h : F) × CalledAt g j x true h)
    → ((x : ℕ) (b : Bool) (q : F) → CalledAt g f x b q → (q ≡ f) × (b ≡ p x)) → r ≡ lowest_of p n
lowest_below u {f = f} r n p ran call =
    searched n p r (first_below u r n p ran call)
    (first_from_Range (record { start = 0; end = n }) u f r (λ k. ⊤) (λ k. ⊤) ran (λ x q k. tt) (λ x q k. ((call x false q k).0, tt)))
