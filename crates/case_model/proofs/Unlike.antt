-- Merging's reply: the same for the two states in either order, and "unlike" exactly where no bisimulation relates them.
-- Being alike is symmetric, and it is being related by some bisimulation.
use Prim.Native.Nat.{ℕ, ◌<◌, min, max}
use mathlib.Core.Bool.{Bool, true, false, ◌&&◌, not}
use mathlib.Core.List.{List}
use mathlib.Core.Logic.{◌↔◌}
use mathlib.Core.Path.{◌≡◌, refl, sym, ap}
use native.Mathlib.Decide.{ℕ_discrete}
use native.Mathlib.Omega.{arith}
use borrow.Author.Tests.{ltb-true, lt-ltb, eq-eqb, ne_eqb}
use lib.Dec.{T, eqb, leb, ltb}
use lib.ListN.{length}
use Rattle.flc.specs.Formula.{Table}
use Rattle.flc.specs.Vocabulary.{Vocabulary}
use Rattle.flc.specs.Bisimulation.{bisimulation, alike}
use Rattle.flc.proofs.Tests.{bool_ext}
use Rattle.case_model.specs.Limits.{standard}
use Rattle.case_model.specs.Case.{Case, read, table}
use Rattle.case_model.specs.Rows.{Found, sound, ◌or_else◌, unless, refusals}
use Rattle.case_model.specs.Replies.{refuses, replied, replying, row13}
use Rattle.case_model.specs.Looking.{looked}
use Rattle.case_model.specs.Merging.{merged_file, merging}
use Rattle.case_model.proofs.Valid.{accepted_valid}
use Rattle.case_model.specs.Valid.{Valid}
use Rattle.case_model.proofs.Replying.{accepted_alone}
use Rattle.case_model.proofs.Merged.{valid_likeness}

-- ---- either order
-- equality and being alike, turned round
eqb_turned : (s t : ℕ) → eqb s t ≡ eqb t s
eqb_turned s t = elim (ℕ_discrete s t) [ yes e ↦ rw (eq-eqb s t e, eq-eqb t s (sym e)) | no n ↦ rw (ne_eqb s t n, ne_eqb t s (λ e. n (sym e))) ]

pub alike_turned : {c : Case} → Valid standard c → (s t : ℕ) → s < length c.labels → t < length c.labels
    → alike (looked c) (table c) s t ≡ alike (looked c) (table c) t s
unfolding table
alike_turned {c} valid s t i j = bool_ext _ _ ((valid_likeness valid).symmetric s t i j) ((valid_likeness valid).symmetric t s j i)

-- rows 8 and 10 with the states turned round
turned : (a b d e : Bool) (y : Found) → (a ≡ true → b ≡ true → d ≡ e)
    → unless a 8 0 or_else unless b 8 0 or_else unless d 10 0 or_else y ≡ unless b 8 0 or_else unless a 8 0 or_else unless e 10 0 or_else y
turned true true d e y h = rw (h refl refl)
turned true false d e y h = refl
turned false true d e y h = refl
turned false false d e y h = refl

-- clause 4.4: which state is named first makes no difference
pub merge-either : (f : List ℕ) (s t room : ℕ) → merging f s t room ≡ merging f t s room
unfolding merging
merge-either f s t room = accepted_alone standard f _ _ _ _ (λ ok.
    let c : Case = read f in
    let n : ℕ = length c.labels in
    let new : List ℕ = merged_file t s c in
    let p : min s t ≡ min t s = omega arith in
    let q : max s t ≡ max t s = omega arith in
    let d : ℕ → ℕ → Bool = λ s t. not (eqb s t) && alike (looked c) (table c) s t in
    rw (p, q) (ap (λ z. replied z new) (turned (ltb s n) (ltb t n) (d s t) (d t s) (row13 new room) (λ i j.
    rw (eqb_turned s t, alike_turned (accepted_valid standard f ok) s t (ltb-true s n i) (ltb-true t n j))))))

-- ---- unlike
module _ (f : List ℕ) (ok : refusals standard f ≡ sound) (s t : ℕ) (i : s < length (read f).labels) (j : t < length (read f).labels) (ne : s ≡ t → ⊥) where
  abbrev L : Table
  L = table (read f)

  abbrev W : Vocabulary
  W = looked (read f)

  -- alike states are related by some bisimulation, and others by none
  related : T (alike W L s t) → ((R : ℕ → ℕ → Bool) → T (bisimulation W L R) → T (R s t) → ⊥) → ⊥
  related a h = h (alike W L) (valid_likeness (accepted_valid standard f ok)).bisimulates a

  unrelated : (T (alike W L s t) → ⊥) → (R : ℕ → ℕ → Bool) → T (bisimulation W L R) → T (R s t) → ⊥
  unfolding table
  unrelated n R B r = n ((valid_likeness (accepted_valid standard f ok)).largest R B s t i j r)

  -- clause 4.7
  pub unlike_exactly : (room : ℕ)
      → (merging f s t room ≡ refuses 10 0) ↔ ((R : ℕ → ℕ → Bool) → T (bisimulation (looked (read f)) (table (read f)) R) → T (R s t) → ⊥)
  unfolding merging replying
  unlike_exactly room =
      let new : List ℕ = merged_file s t (read f) in
      rw (ok, lt-ltb s (length (read f).labels) i, lt-ltb t (length (read f).labels) j, ne_eqb s t ne)
      (go (alike W L s t) (leb (length new) room) new unrelated related)
    where
      go : (a b : Bool) {N : Type 0} (new : List ℕ) → ((T a → ⊥) → N) → (T a → N → ⊥)
          → (replied (unless a 10 0 or_else unless b 13 0) new ≡ refuses 10 0) ↔ N
      go true true new f g = (λ e. let z : ◌≡◌ {A = ℕ} 0 1 = cc in absurd (omega arith), λ n. absurd (g tt n))
      go true false new f g = (λ e. let z : ◌≡◌ {A = ℕ} 0 1 = cc in absurd (omega arith), λ n. absurd (g tt n))
      go false b new f g = (λ e. f (λ u. u), λ n. refl)
