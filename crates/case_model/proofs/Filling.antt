-- Filling a table word by word: the invariant of every such loop, one turn, and the end; and tables that lie side by side.
-- A store changes one word, so what was filled and what is not yet filled stay.
use Prim.Native.Nat.{ℕ, ◌+◌, ◌-◌, ◌≤◌, ◌<◌}
use mathlib.Core.List.{List}
use mathlib.Core.Path.{◌≡◌, refl, sym, ap, ◌∙◌, subst}
use native.Mathlib.Decide.{dec_lt, ℕ_discrete}
use native.Mathlib.Nat.{not-suc-le-zero, le_antisymm, zero-add}
use native.Mathlib.Omega.{arith}
use lib.ListN.{length, get_or, set, replicate, length-set, length-replicate}
use lib.Seq.{get_or-set_same, get_or-set_other, ext_get_or}
use Rattle.flc.specs.Functions.{Fun}
use Rattle.case_model.specs.Areas.{Filled}
use Rattle.case_model.proofs.Lists.{zeros}

-- the first i of `count` words are filled
pub record Filling (w v : List ℕ) (base count i : ℕ) (f : Fun) : Type 0 where
  pub within : i ≤ count
  pub part : Filled w v base i f

pub filling_none : (w : List ℕ) (base count : ℕ) (f : Fun) → Filling w w base count 0 f
filling_none w base count f = record {
  within = omega arith;
  part = record { long = refl; inside = λ x h. absurd (not-suc-le-zero h); under = λ p h. refl; over = λ p h. refl };
}

module _ {w v : List ℕ} {base count i : ℕ} {f : Fun} (s : Filling w v base count i f) where
  -- a word that is not yet filled
  pub before : (p : ℕ) → p < base → get_or v p 0 ≡ get_or w p 0
  before p h = s.part.under p h

  pub after : (p : ℕ) → base + i ≤ p → get_or v p 0 ≡ get_or w p 0
  after p h = s.part.over p h

  -- one turn
  pub turn : (y : ℕ) → base + count ≤ length w → i < count → y ≡ f i → Filling w (set v (base + i) y) base count (i + 1) f
  turn y room h e = record {
    within = omega arith;
    part = record {
      long = length-set v (base + i) y ∙ s.part.long;
      inside = λ x l. elim (ℕ_discrete x i) [
        | yes q ↦ rw q (get_or-set_same v (base + i) y 0 (omega (arith, s.part.long)) ∙ e)
        | no q ↦ get_or-set_other v (base + i) (base + x) y 0 (λ z. q (omega arith)) ∙ s.part.inside x (omega arith)
      ];
      under = λ p l. get_or-set_other v (base + i) p y 0 (λ z. omega arith) ∙ s.part.under p l;
      over = λ p l. get_or-set_other v (base + i) p y 0 (λ z. omega arith) ∙ s.part.over p (omega arith);
    };
  }

  -- the end
  pub filled : count ≤ i → Filled w v base count f
  filled h = subst (λ k. Filled w v base k f) (le_antisymm s.within h) s.part

-- the same function, by another name
pub filled_ext : {w v : List ℕ} {base count : ℕ} {f g : Fun} → Filled w v base count f → ((x : ℕ) → x < count → f x ≡ g x) → Filled w v base count g
filled_ext s e = record { long = s.long; inside = λ x h. s.inside x h ∙ e x h; under = s.under; over = s.over }

-- a table of h words, and then the h words after it
pub filled_up : {w v u : List ℕ} {base h : ℕ} {f g : Fun} → Filled w v base h f → Filled v u (base + h) h g
    → ((y : ℕ) → y < h → f (h + y) ≡ g y) → Filled w u base (h + h) f
filled_up {w} {v} {u} {base} {h} {f} {g} s r e = record {
  long = r.long ∙ s.long;
  inside = λ x l. elim (dec_lt x h) [
    | yes k ↦ r.under (base + x) (omega arith) ∙ s.inside x k
    | no k ↦
        let p : base + x ≡ base + h + (x - h) = omega arith in
        let q : h + (x - h) ≡ x = omega arith in
        ap (λ z. get_or u z 0) p ∙ r.inside (x - h) (omega arith) ∙ sym (e (x - h) (omega arith)) ∙ ap f q
  ];
  under = λ p l. r.under p (omega arith) ∙ s.under p l;
  over = λ p l. r.over p (omega arith) ∙ s.over p (omega arith);
}

-- and then the h words before it
pub filled_down : {w v u : List ℕ} {base h : ℕ} {f g : Fun} → Filled w v (base + h) h (λ y. f (h + y)) → Filled v u base h g
    → ((y : ℕ) → y < h → f y ≡ g y) → Filled w u base (h + h) f
filled_down {w} {v} {u} {base} {h} {f} {g} s r e = record {
  long = r.long ∙ s.long;
  inside = λ x l. elim (dec_lt x h) [
    | yes k ↦ r.inside x k ∙ sym (e x k)
    | no k ↦
        let p : base + x ≡ base + h + (x - h) = omega arith in
        let q : h + (x - h) ≡ x = omega arith in
        r.over (base + x) (omega arith) ∙ ap (λ z. get_or v z 0) p ∙ s.inside (x - h) (omega arith) ∙ ap f q
  ];
  under = λ p l. r.under p l ∙ s.under p (omega arith);
  over = λ p l. r.over p (omega arith) ∙ s.over p (omega arith);
}

-- what was filled before, within the table, does not count
pub filled_over : {w v u : List ℕ} {b k base count : ℕ} {f g : Fun} → Filled w v b k g → Filled v u base count f
    → base ≤ b → b + k ≤ base + count → Filled w u base count f
filled_over s r i j = record {
  long = r.long ∙ s.long;
  inside = r.inside;
  under = λ p l. r.under p l ∙ s.under p (omega arith);
  over = λ p l. r.over p l ∙ s.over p (omega arith);
}

-- one word, filled already
pub filled_one : {w v : List ℕ} {base : ℕ} {g f : Fun} → Filled w v base 1 g → g 0 ≡ f 0 → Filled v v base 1 f
filled_one {w} {v} {base} {g} {f} s e = record {
  long = refl;
  inside = λ x h. let z : x ≡ 0 = omega arith in rw z (s.inside 0 (omega arith) ∙ e);
  under = λ p l. refl;
  over = λ p l. refl;
}

-- ---- an array, filled from its front
pub front_none : (w : List ℕ) (f : Fun) → Filled w w 0 0 f
front_none w f = (filling_none w 0 0 f).part

pub front_more : {w v : List ℕ} {i y : ℕ} {f : Fun} → Filled w v 0 i f → i < length w → y ≡ f i → Filled w (set v i y) 0 (i + 1) f
front_more {w} {v} {i} {y} {f} s h e =
    let s' : Filling w v 0 (i + 1) i f = record { within = omega arith; part = s } in
    subst (λ k. Filled w (set v k y) 0 (i + 1) f) (zero-add i) (turn s' y (omega arith) (omega arith) e).part

-- an entry of it
pub front_at : {w v : List ℕ} {count : ℕ} {f : Fun} → Filled w v 0 count f → (x : ℕ) → x < count → get_or v x 0 ≡ f x
front_at {v = v} s x h = ap (λ k. get_or v k 0) (sym (zero-add x)) ∙ s.inside x h

-- a whole area of zeros
pub zeroed : {w v : List ℕ} → Filled w v 0 (length w) (λ x. 0) → v ≡ replicate (length w) 0
zeroed {w} {v} s =
    ext_get_or 0 v (replicate (length w) 0) (s.long ∙ sym (length-replicate {A = ℕ} (length w) 0))
    (λ i h. front_at s i (omega (arith, s.long)) ∙ sym (zeros (length w) i))
