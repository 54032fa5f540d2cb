-- A node holds exactly if the line of some kind fits it. The lines are tried one after another, chop's after those of the two binders.
use Prim.Native.Nat.{ℕ}
use mathlib.Core.Bool.{Bool, true, false, ◌||◌, or_comm}
use mathlib.Core.Logic.{◌⊎◌, ⊎_elim}
use mathlib.Core.Path.{◌≡◌, refl, sym, ap, subst, ◌∙◌}
use lib.Dec.{T, eqb, ltb, eqb→eq, eqb_refl, ltb→lt, lt→ltb}
use Rattle.flc.specs.Sets.{both, either, for_some}
use Rattle.flc.proofs.Tests.{bool_ext, both_left, both_right, both_mk, for_some_use, for_some_mk}
use Rattle.case_model.specs.Kinds.{Triple, fits, kinds, kind_at, node_holds}

-- the line of kind k fits t as node j
abbrev pub line_fits : ℕ → Triple → ℕ → Bool
line_fits j t k = both (both (eqb t.0 k) (fits (kind_at k).first j t.1)) (fits (kind_at k).second j t.2)

-- ---- in which order
-- of m lines only that of number n can fit
one_line : (n m : ℕ) (p q : ℕ → Bool) → for_some m (λ k. both (both (eqb n k) (p k)) (q k)) ≡ both (ltb n m) (both (p n) (q n))
one_line n m p q = bool_ext _ _ there back
  where
    there : T (for_some m (λ k. both (both (eqb n k) (p k)) (q k))) → T (both (ltb n m) (both (p n) (q n)))
    there h =
        let (k, l, f) = for_some_use m _ h in
        let fk = both_left _ _ f in
        subst (λ i. T (both (ltb i m) (both (p i) (q i)))) (sym (eqb→eq n k (both_left _ _ fk)))
        (both_mk _ _ (lt→ltb k m l) (both_mk _ _ (both_right _ _ fk) (both_right _ _ f)))

    back : T (both (ltb n m) (both (p n) (q n))) → T (for_some m (λ k. both (both (eqb n k) (p k)) (q k)))
    back h =
        let f = both_right _ _ h in
        for_some_mk m _ n (ltb→lt n m (both_left _ _ h)) (both_mk _ _ (both_mk _ _ (eqb_refl n) (both_left _ _ f)) (both_right _ _ f))

-- the lines in the order of the grammar: as by number, but chop's, 10, after those of the binders
pub grammar_order : (j : ℕ) (t : Triple) → let f = line_fits j t in (for_some 10 f || f 11 || f 12 || f 10 || f 13 || f 14) ≡ node_holds j t
unfolding both either for_some kinds
grammar_order j t =
    let f = line_fits j t in
    let low = for_some 10 f in
    ap (λ x. x || f 13 || f 14) (swap (low || f 11) (f 12) (f 10) ∙ ap (λ x. x || f 12) (swap low (f 11) (f 10)))
    ∙ one_line t.0 15 (λ k. fits (kind_at k).first j t.1) (λ k. fits (kind_at k).second j t.2)
  where
    swap : (x a b : Bool) → (x || a || b) ≡ (x || b || a)
    swap true a b = refl
    swap false a b = or_comm a b

-- ---- one after another
-- u, the code's value, is x, whether a line before fits; p, whether the next one does, is tried only if u is false
pub fitted : {u x : Bool} (p : Bool) → u ≡ x → u ≡ true → u ≡ (x || p)
fitted p h e = e ∙ ap (λ x. x || p) (sym e ∙ h)

pub missed : {u x : Bool} (p : Bool) → u ≡ x → u ≡ false → p ≡ (x || p)
missed p h e = ap (λ x. x || p) (sym e ∙ h)

-- where the two branches join
pub tried : {A B : Type 0} {u v x : Bool} (p : Bool) → u ≡ x → (A × (v ≡ u)) ⊎ (B × (v ≡ p)) → (A → u ≡ true) → (B → u ≡ false) → v ≡ (x || p)
tried p h came taken left = ⊎_elim (λ w. w.1 ∙ fitted p h (taken w.0)) (λ w. w.1 ∙ missed p h (left w.0)) came
