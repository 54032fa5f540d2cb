-- Refinement: one test by masks, what each round keeps, that every round but the last drops a pair, and what is left at the end.
-- No bisimilar pair is dropped, and where nothing is dropped what is left is bisimilar; the rows as numbers sum to less with every round.
use mathlib.Core.Bool.{Bool, true, false, not}
use mathlib.Core.List.{List}
use mathlib.Core.Path.{◌≡◌, refl, sym, ap, ◌∙◌, subst}
use Prim.Native.Nat.{ℕ, zero, suc, ◌+◌, ◌*◌, ◌^◌, ◌≤◌, ◌<◌}
use native.Mathlib.Omega.{arith}
use borrow.Author.Tests.{eq-eqb, eqb-false, lt-ltb}
use lib.Bits.{bit_and}
use lib.Dec.{T, eqb, eqb→eq, ltb→lt}
use lib.ListN.{length, get_or}
use Rattle.flc.specs.Sets.{both, implies, for_all, has, set_of}
use Rattle.flc.specs.Formula.{Table, actions}
use Rattle.flc.specs.Vocabulary.{reduct}
use Rattle.flc.specs.Bisimulation.{met, bisimilar, alike}
use Rattle.flc.proofs.Tests.{bool_ext, both_left, both_right, both_mk, both-rises, implies_use, implies_mk, for_all_use, for_all_mk, for_all-rises, for_some-rises}
use Rattle.flc.proofs.Masks.{has-set_of, set_of_lt, set_of_ext, set_of-has}
use Rattle.flc.proofs.Bisimilarity.{Acts, Within, matched, refine, refine_keeps, refine_stands, bisimilar_bisim}
use Rattle.case_model.specs.Case.{Case, table}
use Rattle.case_model.specs.Looking.{looked}
use Rattle.case_model.proofs.Tests.{is_true}
use Rattle.bisimilarity.specs.Graphs.{table_of, Drawn}
use Rattle.bisimilarity.specs.Relations.{related, Rows, same_rows, meets, kept, same_label}
use Rattle.bisimilarity.specs.declared.graph.Graph.{Graph}
use Rattle.bisimilarity.proofs.Sets.{set_of_le, meeting}

-- ---- the test by masks
pub meets-masks : (n : ℕ) (rows : List ℕ) (x y : ℕ) → y < 2 ^ n
    → for_all n (λ u. implies (has x u) (not (eqb (bit_and y (get_or rows u 0)) 0))) ≡ meets n (related rows) (has x) (has y)
unfolding meets related
meets-masks n rows x y h = ap (for_all n) (λ i u. implies (has x u) (meeting n y (get_or rows u 0) h i))

-- by an action that is not looked at there is no step to be met
seen_meets : (b : Bool) (n : ℕ) (R : ℕ → ℕ → Bool) (p q : ℕ → Bool) → implies b (meets n R p q) ≡ meets n R (λ s. both b (p s)) (λ t. both b (q t))
unfolding meets both implies
seen_meets true n R p q = refl
seen_meets false n R p q = sym (is_true _ (for_all_mk n _ (λ s i. tt)))

pub met-masks : (g : Graph) (R : ℕ → ℕ → Bool) (s t a : ℕ) → a < actions
    → implies (has g.acts a) (meets g.states R (has (get_or g.successors (8 * s + a) 0)) (has (get_or g.successors (8 * t + a) 0)))
    ≡ meets g.states R ((table_of g).step s a) ((table_of g).step t a)
unfolding both
met-masks g R s t a h =
    let b : Bool = has g.acts a in
    let p : ℕ → Bool = has (get_or g.successors (8 * s + a) 0) in
    let q : ℕ → Bool = has (get_or g.successors (8 * t + a) 0) in
    seen_meets b g.states R p q
    ∙ sym (ap (λ c. meets g.states R (λ u. both b (both c (p u))) (λ v. both b (both c (q v)))) (lt-ltb a actions h))

acts : (g : Graph) → Acts (table_of g)
acts g s a t u = ltb→lt a actions (both_left _ _ (both_right _ _ u))

-- ---- what each round keeps
-- a larger relation meets what a smaller one does
met-rises : (L : Table) (R Q : ℕ → ℕ → Bool) → Within L R Q → (s t : ℕ) → T (met L R s t) → T (met L Q s t)
unfolding met
met-rises L R Q h s t =
    for_all-rises actions _ _ (λ a _. for_all-rises L.n _ _ (λ s' i u. implies_mk _ _ (λ e.
    for_some-rises L.n _ _ (λ t' j. both-rises _ _ _ _ (λ z. z) (h s' t' i j)) (implies_use _ _ u e))))

-- a symmetric relation of states with equal labels, with every bisimilar pair
pub record Coarse (L : Table) (R : ℕ → ℕ → Bool) : Type 0 where
  pub symm : Within L R (λ s t. R t s)
  pub labels : Within L R (same_label L)
  pub keeps : Within L (bisimilar L) R

-- of such a relation the pairs that are kept are those that refinement leaves
module _ (L : Table) (R : ℕ → ℕ → Bool) (C : Coarse L R) where
  kept_refine : Within L (kept L R) (refine L R)
  unfolding kept refine matched same_label
  kept_refine s t i j u =
      let r = both_left _ _ u in
      let m = both_right _ _ u in
      both_mk _ _ r (both_mk _ _ (C.labels s t i j r) (both_mk _ _ (both_left _ _ m) (met-rises L R (λ x y. R y x) C.symm t s (both_right _ _ m))))

  refine_kept : Within L (refine L R) (kept L R)
  unfolding kept refine matched
  refine_kept s t i j u =
      let m = both_right _ _ (both_right _ _ u) in
      both_mk _ _ (both_left _ _ u) (both_mk _ _ (both_left _ _ m) (met-rises L (λ x y. R y x) R (λ x y k l. C.symm y x l k) t s (both_right _ _ m)))

  kept_coarse : Acts L → Coarse L (kept L R)
  unfolding kept
  kept_coarse A = record {
    symm = λ s t i j u. let m = both_right _ _ u in both_mk _ _ (C.symm s t i j (both_left _ _ u)) (both_mk _ _ (both_right _ _ m) (both_left _ _ m));
    labels = λ s t i j u. C.labels s t i j (both_left _ _ u);
    keeps = λ s t i j u. refine_kept s t i j (refine_keeps L A R C.keeps s t i j u);
  }

start_coarse : (L : Table) → Acts L → Coarse L (same_label L)
unfolding same_label
start_coarse L A = record {
  symm = λ s t i j u. subst T (sym (eq-eqb (L.label t) (L.label s) (sym (eqb→eq (L.label s) (L.label t) u)))) tt;
  labels = λ s t i j u. u;
  keeps = λ s t i j u. subst T (sym (eq-eqb (L.label s) (L.label t) (bisimilar_bisim L A s t i j u).labels)) tt;
}

-- the states that a row shows
rows_related : {n : ℕ} {rows : List ℕ} {R : ℕ → ℕ → Bool} → Rows n rows R → (s t : ℕ) → s < n → t < n → related rows s t ≡ R s t
unfolding related
rows_related {n} {rows} {R} r s t i j = ap (λ x. has x t) (r.row s i) ∙ has-set_of n (R s) t j

-- ---- rounds
pub record Round (g : Graph) (rows : List ℕ) : Type 0 where
  pub coarse : Coarse (table_of g) (related rows)
  pub small : (s : ℕ) → s < g.states → get_or rows s 0 < 2 ^ g.states

-- from the relation that the rows show
round : (g : Graph) (rows : List ℕ) (R : ℕ → ℕ → Bool) → Rows g.states rows R → Coarse (table_of g) R → Round g rows
round g rows R r C =
    let e : (s t : ℕ) → s < g.states → t < g.states → related rows s t ≡ R s t = rows_related r in
    record {
      coarse = record {
        symm = λ s t i j u. subst T (sym (e t s j i)) (C.symm s t i j (subst T (e s t i j) u));
        labels = λ s t i j u. C.labels s t i j (subst T (e s t i j) u);
        keeps = λ s t i j u. subst T (sym (e s t i j)) (C.keeps s t i j u);
      };
      small = λ s i. rw (r.row s i) (set_of_lt g.states (R s));
    }

pub round_start : (g : Graph) (rows : List ℕ) → Rows g.states rows (same_label (table_of g)) → Round g rows
round_start g rows r = round g rows (same_label (table_of g)) r (start_coarse (table_of g) (acts g))

-- the rows as numbers
pub total : ℕ → List ℕ → ℕ
total zero rows = 0
total (suc k) rows = total k rows + get_or rows k 0

total_le : (k : ℕ) (a b : List ℕ) → ((s : ℕ) → s < k → get_or a s 0 ≤ get_or b s 0) → total k a ≤ total k b
unfolding total
total_le zero a b h = omega arith
total_le (suc k) a b h = omega (arith, total_le k a b (λ s i. h s (omega arith)), h k (omega arith))

total_less : (k : ℕ) (a b : List ℕ) → ((s : ℕ) → s < k → get_or a s 0 ≤ get_or b s 0) → same_rows k b a ≡ false → total k a < total k b
unfolding total for_all both
total_less zero a b h e = let z : ◌≡◌ {A = ℕ} 0 1 = cc in absurd (omega arith)
total_less (suc k) a b h e = go (total_less k a b (λ s i. h s (omega arith))) (same_rows k b a) refl
  where
    go : (same_rows k b a ≡ false → total k a < total k b) → (c : Bool) → same_rows k b a ≡ c → total k a + get_or a k 0 < total k b + get_or b k 0
    go before false q = omega (arith, before q, h k (omega arith))
    go before true q =
        let ne : get_or b k 0 ≡ get_or a k 0 → ⊥ = eqb-false (get_or b k 0) (get_or a k 0) (rw q at e) in
        omega (arith, total_le k a b (λ s i. h s (omega arith)), h k (omega arith), ne)

module _ (g : Graph) (rows next : List ℕ) (r : Round g rows) (N : Rows g.states next (kept (table_of g) (related rows))) where
  pub round_next : Round g next
  round_next = round g next (kept (table_of g) (related rows)) N (kept_coarse (table_of g) (related rows) r.coarse (acts g))

  -- a round that changes something drops a pair
  pub round_falls : same_rows g.states rows next ≡ false → total g.states next < total g.states rows
  unfolding kept related
  round_falls e = total_less g.states next rows (λ s i.
      subst (λ x. get_or next s 0 ≤ x) (set_of-has g.states (get_or rows s 0) (r.small s i))
      (subst (λ x. x ≤ set_of g.states (has (get_or rows s 0))) (sym (N.row s i)) (set_of_le g.states _ _ (λ t j u. both_left _ _ u)))) e

  -- one that changes nothing is the last
  pub round_ends : same_rows g.states rows next ≡ true → Rows g.states rows (bisimilar (table_of g))
  unfolding related
  round_ends e = record {
    row = λ s i.
        sym (set_of-has g.states (get_or rows s 0) (r.small s i))
        ∙ set_of_ext g.states _ _ (λ t j. bool_ext _ _ (stands s t i j) (r.coarse.keeps s t i j));
  }
    where
      stays : (s t : ℕ) → s < g.states → t < g.states → related rows s t ≡ kept (table_of g) (related rows) s t
      stays s t i j = ap (λ x. has x t) (eqb→eq _ _ (for_all_use g.states _ (subst T (sym e) tt) s i)) ∙ rows_related N s t i j

      stands : Within (table_of g) (related rows) (bisimilar (table_of g))
      stands = refine_stands (table_of g) (acts g) (related rows) (λ s t i j u.
          kept_refine (table_of g) (related rows) r.coarse s t i j (subst T (stays s t i j) u))

-- the rows that are left of a case's graph
pub rows_alike : {c : Case} {g : Graph} {rows : List ℕ} → Drawn c g → Rows g.states rows (bisimilar (table_of g))
    → (s t : ℕ) → s < length c.labels → t < length c.labels → related rows s t ≡ alike (looked c) (table c) s t
unfolding alike reduct table
rows_alike d r s t i j =
    let n = ap (λ (L : Table). L.n) d.is in
    rows_related r s t (omega (arith, n)) (omega (arith, n)) ∙ ap (λ (L : Table). bisimilar L s t) d.is
