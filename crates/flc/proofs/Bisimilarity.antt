-- Bisimilar states of a table: what the test says, that it is an equivalence and the largest bisimulation, and how the classes are found.
-- Bisimulations are closed under union, converse and composition; pairs that are not met are dropped until none is.
use mathlib.Core.Path.{◌≡◌, refl, sym, ap, ◌∙◌, subst}
use mathlib.Core.Bool.{Bool}
use Prim.Native.Nat.{ℕ, ◌^◌, ◌<◌}
use lib.Dec.{T, eqb, eqb→eq, eqb_refl}
use Rattle.flc.specs.Sets.{both, for_some, has, set_of}
use Rattle.flc.specs.Functions.{Fun}
use Rattle.flc.specs.Formula.{Table, actions}
use Rattle.flc.specs.Bisimulation.{met, matching, bisimilar}
use Rattle.flc.proofs.Tests.{both_left, both_right, both_mk, implies_use, implies_mk, for_all_use, for_all_mk, for_some_use, for_some_mk}
use Rattle.flc.proofs.Masks.{has-set_of, set_of_lt}
use Rattle.flc.proofs.Order.{cut, cut_at, for_some_fun_use, for_some_fun_mk}
use Rattle.flc.proofs.Invariance.{Met, Matched, Bisim}

-- the table has steps of the actions that there are
abbrev pub Acts : Table → Type 0
Acts L = (s a t : ℕ) → T (L.step s a t) → a < actions

-- a test as a relation
abbrev pub Holds : (ℕ → ℕ → Bool) → ℕ → ℕ → Type 0
Holds R s t = T (R s t)

-- R relates no states that Q does not
abbrev pub Within : Table → (ℕ → ℕ → Bool) → (ℕ → ℕ → Bool) → Type 0
Within L R Q = (s t : ℕ) → s < L.n → t < L.n → T (R s t) → T (Q s t)

-- a larger relation matches what a smaller one does
matched_rises : (L : Table) (R Q : ℕ → ℕ → Bool) → Within L R Q → (s t : ℕ) → Matched L L (Holds R) s t → Matched L L (Holds Q) s t
matched_rises L R Q h s t P = record {
  labels = P.labels;
  forth = λ a s' k u. let (t', l, v, r) = P.forth a s' k u in (t', l, v, h s' t' k l r);
  back = λ a t' k u. let (s', l, v, r) = P.back a t' k u in (s', l, v, h s' t' l k r);
}

-- ---- the tests: `use` says what a passed one says, `mk` passes it

-- s and t have equal labels, and each step of either is met by the other
unfoldable pub matched : Table → (ℕ → ℕ → Bool) → ℕ → ℕ → Bool
matched L R s t = both (eqb (L.label s) (L.label t)) (both (met L R s t) (met L (λ x y. R y x) t s))

-- met
met_use : (L : Table) → Acts L → (R : ℕ → ℕ → Bool) (s t : ℕ) → T (met L R s t) → Met L L (Holds R) s t
unfolding met
met_use L A R s t h a s' k e =
    let (t', l, u) = for_some_use L.n _ (implies_use _ _ (for_all_use L.n _ (for_all_use actions _ h a (A s a s' e)) s' k) e) in
    (t', l, both_left _ _ u, both_right _ _ u)

met_mk : (L : Table) (R : ℕ → ℕ → Bool) (s t : ℕ) → Met L L (Holds R) s t → T (met L R s t)
unfolding met
met_mk L R s t h = for_all_mk actions _ (λ a i. for_all_mk L.n _ (λ s' k. implies_mk _ _ (λ e.
    let (t', l, u, r) = h a s' k e in for_some_mk L.n _ t' l (both_mk _ _ u r))))

-- matched
matched_use : (L : Table) → Acts L → (R : ℕ → ℕ → Bool) (s t : ℕ) → T (matched L R s t) → Matched L L (Holds R) s t
unfolding matched
matched_use L A R s t h = record {
  labels = eqb→eq (L.label s) (L.label t) (both_left _ _ h);
  forth = met_use L A R s t (both_left _ _ (both_right _ _ h));
  back = met_use L A (λ x y. R y x) t s (both_right _ _ (both_right _ _ h));
}

matched_mk : (L : Table) (R : ℕ → ℕ → Bool) (s t : ℕ) → Matched L L (Holds R) s t → T (matched L R s t)
unfolding matched
matched_mk L R s t P =
    both_mk _ _ (rw P.labels (eqb_refl (L.label t))) (both_mk _ _ (met_mk L R s t P.forth) (met_mk L (λ x y. R y x) t s P.back))

-- matching
pub matching_use : (L : Table) → Acts L → (R : ℕ → ℕ → Bool) → T (matching L R) → Bisim L L (Holds R)
unfolding matching matched
matching_use L A R h s t i j r =
    matched_use L A R s t (implies_use _ _ (for_all_use L.n _ (for_all_use L.n _ h s i) t j) r)

pub matching_mk : (L : Table) (R : ℕ → ℕ → Bool) → Bisim L L (Holds R) → T (matching L R)
unfolding matching matched
matching_mk L R h = for_all_mk L.n _ (λ s i. for_all_mk L.n _ (λ t j. implies_mk _ _ (λ r. matched_mk L R s t (h s t i j r))))

-- some bisimulation relates bisimilar states
bisimilar_use : (L : Table) → Acts L → (s t : ℕ) → T (bisimilar L s t) → (R : ℕ → ℕ → Bool) × Bisim L L (Holds R) × T (R s t)
unfolding bisimilar
bisimilar_use L A s t h =
    let (f, u) = for_some_fun_use L.n (2 ^ L.n) _ h in
    ((λ s t. has (f s) t), matching_use L A (λ s t. has (f s) t) (both_left _ _ u), both_right _ _ u)

-- and whatever a bisimulation relates is bisimilar: that is larger than every bisimulation
pub bisimilar_mk : (L : Table) (R : ℕ → ℕ → Bool) → Bisim L L (Holds R) → (s t : ℕ) → s < L.n → t < L.n → T (R s t) → T (bisimilar L s t)
unfolding bisimilar
bisimilar_mk L R B s t i j r =
    let f : Fun = λ s. set_of L.n (R s) in
    let c : Fun = cut L.n f in
    let e : (s t : ℕ) → s < L.n → t < L.n → has (c s) t ≡ R s t = λ s t i j. ap (λ x. has x t) (cut_at L.n f s i) ∙ has-set_of L.n (R s) t j in
    let C : Bisim L L (Holds (λ s t. has (c s) t)) = λ s t i j q.
    matched_rises L R (λ s t. has (c s) t) (λ s t i j. subst T (sym (e s t i j))) s t (B s t i j (subst T (e s t i j) q)) in
    for_some_fun_mk L.n (2 ^ L.n) _ f (λ s l. set_of_lt L.n (R s))
    (both_mk _ _ (matching_mk L (λ s t. has (c s) t) C) (subst T (sym (e s t i j)) r))

-- and it is one
pub bisimilar_bisim : (L : Table) → Acts L → Bisim L L (Holds (bisimilar L))
bisimilar_bisim L A s t i j h =
    let (R, B, r) = bisimilar_use L A s t h in
    matched_rises L R (bisimilar L) (bisimilar_mk L R B) s t (B s t i j r)

-- ---- an equivalence
pub bisimilar_refl : (L : Table) (s : ℕ) → s < L.n → T (bisimilar L s s)
bisimilar_refl L s i = bisimilar_mk L eqb same s s i i (eqb_refl s)
  where
    same : Bisim L L (Holds eqb)
    same s t i j e =
        subst (Matched L L (Holds eqb) s) (eqb→eq s t e)
        (record { labels = refl; forth = λ a s' k u. (s', k, u, eqb_refl s'); back = λ a s' k u. (s', k, u, eqb_refl s') })

pub bisimilar_sym : (L : Table) → Acts L → (s t : ℕ) → s < L.n → t < L.n → T (bisimilar L s t) → T (bisimilar L t s)
bisimilar_sym L A s t i j h =
    bisimilar_mk L (λ x y. bisimilar L y x)
    (λ x y k l u.
    let P : Matched L L (Holds (bisimilar L)) y x = bisimilar_bisim L A y x l k u in
    record { labels = sym P.labels; forth = P.back; back = P.forth })
    t s j i h

pub bisimilar_trans : (L : Table) → Acts L → (s t u : ℕ) → s < L.n → t < L.n → u < L.n → T (bisimilar L s t) → T (bisimilar L t u) → T (bisimilar L s u)
bisimilar_trans L A s t u i j k g h = bisimilar_mk L through composed s u i k (join s t u j g h)
  where
    through : ℕ → ℕ → Bool
    through x z = for_some L.n (λ y. both (bisimilar L x y) (bisimilar L y z))

    join : (x y z : ℕ) → y < L.n → T (bisimilar L x y) → T (bisimilar L y z) → T (through x z)
    join x y z j g h = for_some_mk L.n _ y j (both_mk _ _ g h)

    composed : Bisim L L (Holds through)
    composed x z i k e =
        let (y, j, v) = for_some_use L.n _ e in
        let P : Matched L L (Holds (bisimilar L)) x y = bisimilar_bisim L A x y i j (both_left _ _ v) in
        let Q : Matched L L (Holds (bisimilar L)) y z = bisimilar_bisim L A y z j k (both_right _ _ v) in
        record {
          labels = P.labels ∙ Q.labels;
          forth = λ a x' l w.
              let (y', m, w', r) = P.forth a x' l w in
              let (z', o, w'', q) = Q.forth a y' m w' in
              (z', o, w'', join x' y' z' m r q);
          back = λ a z' l w.
              let (y', m, w', q) = Q.back a z' l w in
              let (x', o, w'', r) = P.back a y' m w' in
              (x', o, w'', join x' y' z' m r q);
        }

-- ---- how classes are found: pairs that are not matched are dropped until none is
unfoldable pub refine : Table → (ℕ → ℕ → Bool) → ℕ → ℕ → Bool
refine L R s t = both (R s t) (matched L R s t)

-- no bisimilar pair is ever dropped
pub refine_keeps : (L : Table) → Acts L → (R : ℕ → ℕ → Bool) → Within L (bisimilar L) R → Within L (bisimilar L) (refine L R)
unfolding refine
refine_keeps L A R h s t i j u =
    both_mk _ _ (h s t i j u) (matched_mk L R s t (matched_rises L (bisimilar L) R h s t (bisimilar_bisim L A s t i j u)))

-- where nothing is dropped any more, what is left is bisimilar
pub refine_stands : (L : Table) → Acts L → (R : ℕ → ℕ → Bool) → Within L R (refine L R) → Within L R (bisimilar L)
unfolding refine
refine_stands L A R h = bisimilar_mk L R (λ s t i j r. matched_use L A R s t (both_right _ _ (h s t i j r)))
