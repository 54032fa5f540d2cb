-- What is known of alike states, of any table and whatever is looked at.
-- They are the bisimilar states of the reduct; rules take corresponding sets to corresponding sets there, and mean the same in it.
use mathlib.Core.Path.{◌≡◌, sym, ap, ◌∙◌, subst}
use Prim.Native.Nat.{ℕ, ◌^◌, ◌<◌}
use lib.Bits.{bit_and}
use Rattle.flc.specs.Sets.{has}
use Rattle.flc.specs.Functions.{Fun}
use Rattle.flc.specs.Formula.{Table, Env, Formula, mean}
use Rattle.flc.specs.Order.{GoodEnv}
use Rattle.flc.specs.Vocabulary.{Vocabulary, vocabulary, Included, reduct}
use Rattle.flc.specs.Bisimulation.{bisimilar, bisimulation, alike}
use Rattle.flc.specs.Likeness.{KeepsClasses, Likeness}
use Rattle.flc.proofs.Tests.{both_left, both_right, both_mk}
use Rattle.flc.proofs.Masks.{set_ext}
use Rattle.flc.proofs.Invariance.{Matched, Bisim, Corr, Rel, mean-kept}
use Rattle.flc.proofs.Vocabularies.{mean-reduct}
use Rattle.flc.proofs.Bisimilarity.{Acts, Holds, matching_use, matching_mk, bisimilar_mk, bisimilar_bisim}
use Rattle.flc.proofs.Bisimilarity.{bisimilar_refl, bisimilar_sym, bisimilar_trans}

-- a reduct has no step that the table has not
reduct_acts : (W : Vocabulary) (L : Table) → Acts L → Acts (reduct W L)
unfolding reduct
reduct_acts W L A s a t u = A s a t (both_right _ _ u)

-- a relation that matches whole labels and all steps matches what is left of them
reduct_bisim : (W : Vocabulary) (L : Table) (R : ℕ → ℕ → Type 0) → Bisim L L R → Bisim (reduct W L) (reduct W L) R
unfolding reduct
reduct_bisim W L R B s t i j r =
    let P : Matched L L R s t = B s t i j r in
    record {
      labels = ap (λ x. bit_and x W.props) P.labels;
      forth = λ a s' k u. let (t', l, v, q) = P.forth a s' k (both_right _ _ u) in (t', l, both_mk _ _ (both_left _ _ u) v, q);
      back = λ a t' k u. let (s', l, v, q) = P.back a t' k (both_right _ _ u) in (s', l, both_mk _ _ (both_left _ _ u) v, q);
    }

-- where like states correspond, corresponding sets are one set, which is a union of classes
module _ (W : Vocabulary) (L : Table) (A : Acts L) where
  abbrev M : Table
  M = reduct W L

  abbrev R : ℕ → ℕ → Type 0
  R = Holds (bisimilar (reduct W L))

  corr_same : (x y : ℕ) → x < 2 ^ L.n → y < 2 ^ L.n → Corr M M R x y → x ≡ y
  unfolding reduct
  corr_same x y i j c = set_ext L.n x y i j (λ s k. c s s k k (bisimilar_refl M s k))

  keeps_rel : (f : Fun) → KeepsClasses W L f → Rel M M R f f
  unfolding reduct alike
  keeps_rel f h x y i j c s t k l r =
      let e : x ≡ y = corr_same x y i j c in
      h x i (λ s t k l r. c s t k l r ∙ ap (λ z. has z t) (sym e)) s t k l r ∙ ap (λ z. has (f z) t) e

  pub alike_bisim : Bisim M M (Holds (alike W L))
  unfolding alike
  alike_bisim = bisimilar_bisim M (reduct_acts W L A)

  kept : (p : Formula) → Included (vocabulary p) W → (ρ : Env) → GoodEnv L.n ρ → ((v : ℕ) → KeepsClasses W L (ρ v)) → KeepsClasses W L (mean L p ρ)
  unfolding reduct alike
  kept p h ρ G K x i u s t k l r =
      let e : mean M p ρ ≡ mean L p ρ = mean-reduct W L p h ρ in
      subst (λ (f : Fun). has (f x) s ≡ has (f x) t) e
      (mean-kept M M R alike_bisim p ρ ρ G G (λ v. keeps_rel (ρ v) (K v)) x x i i u s t k l r)

  -- clause 4.10
  pub likeness : Likeness W L
  unfolding reduct bisimulation alike
  likeness = record {
    reflexive = bisimilar_refl M;
    symmetric = bisimilar_sym M (reduct_acts W L A);
    transitive = bisimilar_trans M (reduct_acts W L A);
    bisimulates = matching_mk M (bisimilar M) alike_bisim;
    largest = λ Q B. bisimilar_mk M Q (matching_use M (reduct_acts W L A) Q B);
    wider = λ s t i j u. bisimilar_mk M (bisimilar L) (reduct_bisim W L (Holds (bisimilar L)) (bisimilar_bisim L A)) s t i j u;
    invariant = kept;
  }
