-- The drives are right: one computed test over a drive, one law that turns it into what the drive claims, and the test on the whole table.
-- The rule is run on packed functions (flc's Evaluation) once for each drive, and once more for each approximant listed.
use mathlib.Core.Path.{◌≡◌, refl, sym, ◌∙◌}
use mathlib.Core.Bool.{Bool, true, false}
use mathlib.Core.List.{List, [], ◌∷◌}
use Prim.Native.Nat.{ℕ, ◌*◌, ◌^◌, ◌<◌}
use lib.Dec.{T, eqb, ltb, eqb→eq, ltb→lt}
use Rattle.flc.specs.Sets.{both, either, implies, for_all, for_some, among, first, has, set_of}
use Rattle.flc.specs.Formula.{Table, steps_by, mean_atom, free}
use Rattle.flc.specs.Nodes.{Node, lower, formula_at}
use Rattle.flc.proofs.Tests.{both_left, both_right}
use Rattle.flc.proofs.Packing.{look, pack, packed}
use Rattle.flc.proofs.Evaluation.{loop, set, start, on_masks, eval, run_node, run, run_mean, run_rounds, run_approx}
use Rattle.case_model.specs.Limits.{standard}
use Rattle.case_model.specs.Bytes.{list_of, padding, chained, pairs_hold, section}
use Rattle.case_model.specs.Case.{Case, read, listed, table, node_at, rule}
use Rattle.case_model.specs.Kinds.{kinds, kind_at}
use Rattle.case_model.specs.Rows.{Found, sound, refused, lowest, root_closed, refusals}
use Rattle.drives.specs.Drives.{Drive, Each, Right, drives}

-- ---- tests

is_sound : Found → Bool
is_sound sound = true
is_sound (refused k p) = false

sound_use : (r : Found) → T (is_sound r) → r ≡ sound
unfolding is_sound
sound_use sound t = refl
sound_use (refused k p) t = absurd t

each : {A : Type 0} → (A → Bool) → List A → Bool
each p [] = true
each p (a ∷ l) = both (p a) (each p l)

each_use : {A : Type 0} (p : A → Bool) (P : A → Type 0) → ((a : A) → T (p a) → P a) → (l : List A) → T (each p l) → Each P l
unfolding each
each_use p P h [] t = tt
each_use p P h (a ∷ l) t = (h a (both_left _ _ t), each_use p P h l (both_right _ _ t))

-- x is a set of n states, and there the function packed in t takes the value y
takes : ℕ → ℕ → ℕ → ℕ → Bool
takes n t x y = both (ltb x (2 ^ n)) (eqb (look (2 ^ n) t x) y)

takes_use : (n t x y z : ℕ) → (x < 2 ^ n → look (2 ^ n) t x ≡ z) → T (takes n t x y) → z ≡ y
unfolding takes
takes_use n t x y z h u = sym (h (ltb→lt x (2 ^ n) (both_left _ _ u))) ∙ eqb→eq (look (2 ^ n) t x) y (both_right _ _ u)

-- ---- the lemma

-- what the drive claims, computed
test : Drive → Bool
test d =
    let c : Case = read d.file in
    let L : Table = table c in
    let r : ℕ → ℕ × ℕ = run L (node_at c) c.root in
    let e : ℕ × ℕ = r (L.n * 2 ^ L.n) in
    both (is_sound (refusals standard d.file))
    (both (each (eqb e.1) d.rounds)
    (both (each (λ (x, y). takes L.n e.0 x y) d.values)
    (each (λ (k, x, y). takes L.n (r k).0 x y) d.approximants)))

-- the one lemma: a drive that passes is right
passes : (d : Drive) → T (test d) → Right d
unfolding test rule
passes d t =
    let c : Case = read d.file in
    let L : Table = table c in
    let N : ℕ → Node = node_at c in
    let j : ℕ = c.root in
    let most : ℕ = L.n * 2 ^ L.n in
    record {
      accepted = sound_use (refusals standard d.file) (both_left _ _ t);
      counts = each_use _ _ (λ k u. sym (run_rounds L N j) ∙ eqb→eq (run L N j most).1 k u) d.rounds (both_left _ _ (both_right _ _ t));
      gives =
          each_use _ _ (λ (x, y). takes_use L.n (run L N j most).0 x y _ (run_mean L N j x))
          d.values (both_left _ _ (both_right _ _ (both_right _ _ t)));
      approaches =
          each_use _ _
          (λ (k, x, y). takes_use L.n (run L N j k).0 x y _ (run_approx L N j k x))
          d.approximants (both_right _ _ (both_right _ _ (both_right _ _ t)));
    }

-- every drive of the table passes
pub drives_right : Each Right drives
unfolding drives test is_sound each takes look pack packed loop set start on_masks eval run_node run lower mean_atom steps_by
    both either implies for_all for_some among first has set_of free formula_at list_of chained padding pairs_hold section listed table
    kinds kind_at node_at rule lowest root_closed refusals
drives_right = each_use test Right passes drives tt
