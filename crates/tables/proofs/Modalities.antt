-- A modality at a set with one state more or less; where it begins; and the loop that doubles a table of it.
-- A state more is one test more in "some step" and one less in "all steps".
use Prim.Native.Nat.{ℕ, suc, ◌+◌, ◌-◌, ◌*◌, ◌^◌, ◌≤◌, ◌<◌}
use mathlib.Core.Bool.{Bool, true, false, not}
use mathlib.Core.List.{List}
use mathlib.Core.Path.{◌≡◌, refl, sym, ap, ap₂, ◌∙◌, subst}
use native.Mathlib.Nat.{add_comm, add-zero, zero-add}
use native.Mathlib.Numerals.{add-one}
use native.Mathlib.Omega.{arith}
use lib.Bits.{bit_or, bit_and, and_le_l}
use lib.Dec.{T, eqb, eqb→eq, eqb_refl, T_not, not_T}
use lib.Pow.{pow_pos, pow_mono}
use Rattle.flc.specs.Sets.{both, either, among, has, set_of}
use Rattle.flc.specs.Functions.{Fun}
use Rattle.flc.specs.Formula.{Table, modal, steps_by, mean_atom}
use Rattle.flc.proofs.Tests.{bool_ext, both_left, both_right, both_mk, either_left, either_right, either_use}
use Rattle.flc.proofs.Tests.{implies_use, implies_mk, for_all_use, for_all_mk, for_some_use, for_some_mk}
use Rattle.flc.proofs.Masks.{has-set_of, set_of_lt, set_ext, has_and, or_set_of, set_of_ext, has_empty, has_beyond, has_rest, has_all}
use Rattle.case_model.specs.Areas.{Filled, from}
use Rattle.case_model.proofs.Filling.{filled_ext, filled_up, filled_down, filled_one}
use Rattle.case_plan.specs.Plans.{Plan, Sized, table_of}
use Rattle.tables.specs.Tables.{sources_by, edge}
use Rattle.tables.proofs.Digits.{has_add, has_gap}

-- ---- one state more in x, under a test q
module _ (n s x : ℕ) (l : s < n) (out : has x s ≡ false) (q : ℕ → Bool) where
  some_more : among true n q (has (x + 2 ^ s)) ≡ either (among true n q (has x)) (q s)
  unfolding among
  some_more = bool_ext _ _
      (λ h. let (t, k, r) = for_some_use n _ h in
      either_use (eqb t s) (has x t)
      (λ e. either_right _ _ (subst (λ t. T (q t)) (eqb→eq t s e) (both_left _ _ r)))
      (λ i. either_left _ _ (for_some_mk n _ t k (both_mk _ _ (both_left _ _ r) i)))
      (subst T (has_add s t x out) (both_right _ _ r)))
      (either_use _ _
      (λ h. let (t, k, r) = for_some_use n _ h in
      for_some_mk n _ t k (both_mk _ _ (both_left _ _ r) (subst T (sym (has_add s t x out)) (either_right _ _ (both_right _ _ r)))))
      (λ r. for_some_mk n _ s l (both_mk _ _ r (subst T (sym (has_add s s x out)) (either_left _ _ (eqb_refl s))))))

  all_less : among false n q (has x) ≡ both (among false n q (has (x + 2 ^ s))) (not (q s))
  unfolding among
  all_less = bool_ext _ _
      (λ h. both_mk _ _
      (for_all_mk n _ (λ t k. implies_mk _ _ (λ r. subst T (sym (has_add s t x out)) (either_right _ _ (implies_use _ _ (for_all_use n _ h t k) r)))))
      (not_T (q s) (λ r. subst T out (implies_use _ _ (for_all_use n _ h s l) r))))
      (λ h. for_all_mk n _ (λ t k. implies_mk _ _ (λ r. either_use (eqb t s) (has x t)
      (λ e. absurd (T_not (q s) (both_right _ _ h) (subst (λ t. T (q t)) (eqb→eq t s e) r)))
      (λ i. i)
      (subst T (has_add s t x out) (implies_use _ _ (for_all_use n _ (both_left _ _ h) t k) r)))))

-- ---- the meanings
pub edge_le : (d : Bool) (n : ℕ) → edge d n ≤ n
edge_le true n = omega arith
edge_le false n = omega arith

module _ (L : Table) (g : ℕ) where
  modal_edge : (d : Bool) → mean_atom L (modal d g) (edge d (2 ^ L.n - 1)) ≡ edge d (2 ^ L.n - 1)
  unfolding mean_atom among
  modal_edge true = set_ext L.n _ 0 (set_of_lt L.n _) (pow_pos L.n) (λ r k.
      has-set_of L.n _ r k ∙ bool_ext _ _
      (λ h. let (t, l, i) = for_some_use L.n _ h in absurd (subst T (has_empty t) (both_right _ _ i)))
      (λ h. absurd (subst T (has_empty r) h)))
  modal_edge false = set_ext L.n _ _ (set_of_lt L.n _) (omega (arith, pow_pos L.n)) (λ r k.
      has-set_of L.n _ r k ∙ bool_ext _ _ (λ h. has_all L.n r k) (λ h. for_all_mk L.n _ (λ t l. implies_mk _ _ (λ i. has_all L.n t l))))

  module _ (s x p : ℕ) (l : s < L.n) (out : has x s ≡ false) (e : p ≡ set_of L.n (λ r. steps_by L g r s)) where
    modal_more : mean_atom L (modal true g) (x + 2 ^ s) ≡ bit_or (mean_atom L (modal true g) x) p
    unfolding mean_atom
    modal_more =
        set_of_ext L.n _ _ (λ r k. some_more L.n s x l out (steps_by L g r)
        ∙ ap₂ either (sym (has-set_of L.n _ r k)) (sym (ap (λ p. has p r) e ∙ has-set_of L.n _ r k)))
        ∙ sym (or_set_of L.n _ p (set_of_lt L.n _) (rw e (set_of_lt L.n _)))

    modal_less : L.n ≤ 16 → mean_atom L (modal false g) x ≡ bit_and (mean_atom L (modal false g) (x + 2 ^ s)) (65535 - p)
    unfolding mean_atom
    modal_less few =
        let q : ℕ → Bool = λ r. among false L.n (steps_by L g r) (has (x + 2 ^ s)) in
        let small : p < 2 ^ L.n = rw e (set_of_lt L.n _) in
        set_ext L.n _ _ (set_of_lt L.n _) (omega (arith, and_le_l (set_of L.n q) (65535 - p), set_of_lt L.n q)) (λ r k.
        let rest = has_rest 16 p r (omega (arith, pow_mono {i = L.n} {j = 16} few)) (omega arith) in
        has-set_of L.n _ r k ∙ all_less L.n s x l out (steps_by L g r)
        ∙ ap₂ both (sym (has-set_of L.n _ r k)) (ap not (sym (ap (λ p. has p r) e ∙ has-set_of L.n _ r k)) ∙ sym rest)
        ∙ sym (has_and _ (65535 - p) r))

-- ---- the loop: h words are filled, h the power of the states gone through
-- where they begin in the table: the first of ⟨g⟩'s, the last of [g]'s
abbrev pub offset : Bool → ℕ → ℕ → ℕ
offset true size h = 0
offset false size h = size - h

-- what they hold
abbrev pub part : Plan → Bool → ℕ → ℕ → Fun
part p d g h y = mean_atom (table_of p) (modal d g) (offset d p.size h + y)

-- of the table from `base` on, the h words from `at` on are filled
pub record Doubling (p : Plan) (d : Bool) (g : ℕ) (w v : List ℕ) (base at h s : ℕ) : Type 0 where
  pub within : s ≤ p.states
  pub power : h ≡ 2 ^ s
  pub place : at ≡ base + offset d p.size h
  pub filled : Filled w v at h (part p d g h)

module _ {p : Plan} (z : Sized p) {d : Bool} {g : ℕ} {w v : List ℕ} {base at h s : ℕ} (D : Doubling p d g w v base at h s) where
  -- 2h words are at most a table
  pub double_fits : s < p.states → h + h ≤ p.size
  double_fits l = omega (arith, pow_mono {i = suc s} {j = p.states} l, D.power, z.size)

  -- in the end h words are a table
  double_whole : p.states ≤ s → h ≡ p.size
  double_whole l = let e : s ≡ p.states = omega (arith, D.within) in D.power ∙ ap (λ n. 2 ^ n) e ∙ sym z.size

-- the same by other names
pub double_as : {p : Plan} {d d' : Bool} {g : ℕ} {w v v' : List ℕ} {base at at' h s : ℕ} → d ≡ d' → v ≡ v' → at ≡ at'
    → Doubling p d' g w v' base at' h s → Doubling p d g w v base at h s
double_as e f q D = rw (e, f, q) D

-- where the next h words are
pub up_room : {p : Plan} (z : Sized p) {g : ℕ} {w v : List ℕ} {base at h s : ℕ} (D : Doubling p true g w v base at h s) → s < p.states
    → at + h + h ≤ base + p.size
up_room z D l = omega (arith, double_fits z D l, D.place)

pub down_room : {p : Plan} (z : Sized p) {g : ℕ} {w v : List ℕ} {base at h s : ℕ} (D : Doubling p false g w v base at h s) → s < p.states
    → (base + h ≤ at) × (at + h ≤ base + p.size)
down_room z D l = omega (arith, double_fits z D l, D.place)

module _ {p : Plan} (z : Sized p) (g : ℕ) where
  -- the first word
  pub double_start : (d : Bool) {w v : List ℕ} {base x : ℕ} → x ≡ edge d (p.size - 1) → Filled w v (base + x) 1 (λ _. x)
      → Doubling p d g v v base (base + x) 1 0
  double_start d {w} {v} {base} {x} e S =
      let M : Fun = mean_atom (table_of p) (modal d g) in
      let q = e ∙ ap (λ m. edge d (m - 1)) z.size in
      record {
        within = omega arith;
        power = refl;
        place = ap (λ x. base + x) (e ∙ there d);
        filled = filled_one S (q ∙ sym (modal_edge (table_of p) g d) ∙ ap M (sym q ∙ e ∙ there d ∙ sym (add-zero _)));
      }
    where
      there : (d : Bool) → edge d (p.size - 1) ≡ offset d p.size 1
      there true = refl
      there false = refl

  -- ⟨g⟩'s double upwards
  pub double_up : {w v u : List ℕ} {base at h s q : ℕ} → Doubling p true g w v base at h s → s < p.states → q ≡ sources_by p g s
      → Filled v u (at + h) h (λ x. bit_or (from v at x) q) → Doubling p true g w u base at (h * 2) (s + 1)
  double_up {w} {v} {u} {base} {at} {h} {s} {q} D l e S =
      let twice : h + h ≡ h * 2 = omega arith in
      let M : Fun = mean_atom (table_of p) (modal true g) in
      record {
        within = omega arith;
        power = rw add-one (omega (arith, D.power));
        place = D.place;
        filled = subst (λ k. Filled w u at k (part p true g k)) twice (filled_up D.filled S (λ y k.
            ap M (zero-add (h + y) ∙ add_comm h y ∙ ap (λ h. y + h) D.power)
            ∙ modal_more (table_of p) g s y q l (has_beyond s y s (omega (arith, D.power)) (omega arith)) e
            ∙ ap (λ m. bit_or m q) (ap M (sym (zero-add y)) ∙ sym (D.filled.inside y k))));
      }

  -- [g]'s downwards
  pub double_down : {w v u : List ℕ} {base at to h s q : ℕ} → Doubling p false g w v base at h s → s < p.states → q ≡ sources_by p g s
      → at ≡ to + h → Filled v u to h (λ x. bit_and (from v (to + h) x) (65535 - q)) → Doubling p false g w u base to (h * 2) (s + 1)
  double_down {w} {v} {u} {base} {at} {to} {h} {s} {q} D l e b S =
      let twice : h + h ≡ h * 2 = omega arith in
      let fits = double_fits z D l in
      let M : Fun = mean_atom (table_of p) (modal false g) in
      let F : Filled w v (to + h) h (λ y. part p false g (h * 2) (h + y)) =
      filled_ext (subst (λ d. Filled w v d h (part p false g h)) b D.filled)
      (λ y k. let g : p.size - h + y ≡ p.size - h * 2 + (h + y) = omega arith in ap M g) in
      record {
        within = omega arith;
        power = rw add-one (omega (arith, D.power));
        place = omega (arith, D.place);
        filled = subst (λ k. Filled w u to k (part p false g (h * 2))) twice (filled_down F S (λ y k.
            let x = p.size - h * 2 + y in
            let i : x + 2 ^ s ≡ p.size - h * 2 + (h + y) = omega (arith, D.power) in
            let o : x ≡ 2 ^ p.states - 2 ^ s * 2 + y = ap₂ (λ m h. m - h * 2 + y) z.size D.power in
            let out = ap (λ x. has x s) o ∙ has_gap s p.states y l (omega (arith, D.power)) in
            modal_less (table_of p) g s x q l out e z.few ∙ ap (λ m. bit_and m (65535 - q)) (ap M i ∙ sym (F.inside y k))));
      }

  -- all words
  pub double_end : (d : Bool) {w v : List ℕ} {base at h s : ℕ} → Doubling p d g w v base at h s → p.states ≤ s
      → Filled w v base p.size (mean_atom (table_of p) (modal d g))
  double_end d {w} {v} {base} {at} {h} D l =
      let e : at ≡ base = D.place ∙ ap (λ h. base + offset d p.size h) (double_whole z D l) ∙ ap (λ i. base + i) (whole d) ∙ add-zero base in
      filled_ext (subst (λ h. Filled w v base h (part p d g h)) (double_whole z D l) (subst (λ i. Filled w v i h (part p d g h)) e D.filled))
      (λ y k. ap (mean_atom (table_of p) (modal d g)) (ap (λ i. i + y) (whole d) ∙ zero-add y))
    where
      whole : (d : Bool) → offset d p.size p.size ≡ 0
      whole true = refl
      whole false = omega arith
