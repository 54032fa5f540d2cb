-- The set of a rule: it is a set, rises with the sets of the variables, and depends on those of the free ones only. By induction on the rule.
-- So a binder is the fixed point of its body, and what it was for lesser sets is where its iterates may go on.
use mathlib.Core.Path.{◌≡◌, refl, sym, ap, ap₂, fun_ext}
use mathlib.Core.Bool.{Bool, true, false, not, cond}
use Prim.Native.Nat.{ℕ, ◌^◌, ◌<◌}
use lib.Dec.{T, eqb, eqb_refl}
use lib.Pow.{pow_pos}
use Rattle.flc.specs.Sets.{both, either, has, set_of}
use Rattle.flc.specs.Formula.{Table, Atom, or, and, chop, Formula, atom, var, op, fix, mean_atom, none, mean, free}
use Rattle.flc.proofs.Tests.{both-rises, either-rises, both_mk, either_left, either_right}
use Rattle.flc.proofs.Masks.{set_of_lt}
use Rattle.flc.specs.Order.{Sub, Good}
use Rattle.flc.specs.Iterates.{iterate}
use Rattle.flc.proofs.Order.{sub_flip, set_of_sub}
use Rattle.flc.proofs.Meanings.{none_good, mean_nice}
use Rattle.regular_model.specs.Values.{begin, given, constant_of, modality_of, value, no_sets, Climbing}
use Rattle.regular_model.proofs.Iterates.{sub_refl, sub_trans, begin_small, iterated_small}
use Rattle.regular_model.proofs.Iterates.{iterated_mono, settled_fixed, climbing_stops}

-- ---- sets for the variables

-- a set of n states for each variable
abbrev pub Small : ℕ → (ℕ → ℕ) → Type 0
Small n c = (v : ℕ) → c v < 2 ^ n

-- each below the other's, in the order of the flag
abbrev pub Under : Bool → ℕ → (ℕ → ℕ) → (ℕ → ℕ) → Type 0
Under d n c e = (v : ℕ) → Sub d n (c v) (e v)

pub no_sets_small : (n : ℕ) → Small n no_sets
unfolding no_sets
no_sets_small n v = pow_pos n

-- what holds of s and t, and of two others at the other variables, holds of them with s and t for v
pub given_two : (Q : ℕ → ℕ → Type 0) (c e : ℕ → ℕ) (v w s t : ℕ) → Q s t → (T (not (eqb w v)) → Q (c w) (e w)) → Q (given c v s w) (given e v t w)
unfolding given
given_two Q c e v w s t h =
    elim (eqb w v) as (λ b. (T (not b) → Q (c w) (e w)) → Q (cond b s (c w)) (cond b t (e w))) [ true ↦ λ k. h | false ↦ λ k. k tt ]

pub given_small : (n : ℕ) (c : ℕ → ℕ) (v s : ℕ) → Small n c → s < 2 ^ n → Small n (given c v s)
given_small n c v s C i w = given_two (λ x y. x < 2 ^ n) c c v w s s i (λ t. C w)

given_under : (d : Bool) (n : ℕ) (c e : ℕ → ℕ) (v s t : ℕ) → Under d n c e → Sub d n s t → Under d n (given c v s) (given e v t)
given_under d n c e v s t h k w = given_two (Sub d n) c e v w s t k (λ u. h w)

-- ---- an atom is monotone
pub atom_good : (L : Table) (a : Atom) → Good L.n (mean_atom L a)
unfolding mean
atom_good L a = (mean_nice L (atom a)).good none (none_good L.n)

-- ---- the set of a rule is a set, and rises with those of the variables
pub record Even (n : ℕ) (m : (ℕ → ℕ) → ℕ) : Type 0 where
  pub small : (c : ℕ → ℕ) → Small n c → m c < 2 ^ n
  pub rises : (c e : ℕ → ℕ) → Small n c → Small n e → Under true n c e → Sub true n (m c) (m e)

-- so the body of a binder is a monotone map on sets
body_good : {n : ℕ} {m : (ℕ → ℕ) → ℕ} → Even n m → (v : ℕ) (c : ℕ → ℕ) → Small n c → Good n (λ s. m (given c v s))
body_good {n} E v c C = record {
  small = λ s i. E.small _ (given_small n c v s C i);
  mono = λ s t i j h. E.rises _ _ (given_small n c v s C i) (given_small n c v t C j) (given_under true n c c v s t (λ w z l u. u) h);
}

value_even : (L : Table) (p : Formula) → Even L.n (value L p)
unfolding value
value_even L (atom a) = record { small = λ c C. (atom_good L (constant_of a)).small 0 (pow_pos L.n); rises = λ c e C D h s k t. t }
value_even L (var v) = record { small = λ c C. C v; rises = λ c e C D h. h v }
value_even L (op or p q) = record {
  small = λ c C. set_of_lt L.n _;
  rises = λ c e C D h. set_of_sub L.n _ _ (λ s k. either-rises _ _ _ _ ((value_even L p).rises c e C D h s k) ((value_even L q).rises c e C D h s k));
}
value_even L (op and p q) = record {
  small = λ c C. set_of_lt L.n _;
  rises = λ c e C D h. set_of_sub L.n _ _ (λ s k. both-rises _ _ _ _ ((value_even L p).rises c e C D h s k) ((value_even L q).rises c e C D h s k));
}
value_even L (op chop p q) = record {
  small = λ c C. (atom_good L (modality_of p)).small _ ((value_even L q).small c C);
  rises = λ c e C D h. (atom_good L (modality_of p)).mono _ _ ((value_even L q).small c C) ((value_even L q).small e D) ((value_even L q).rises c e C D h);
}
value_even L (fix d v p) = record {
  small = λ c C. iterated_small (body_good (value_even L p) v c C) L.n _ (begin_small d L.n);
  rises = λ c e C D h. iterated_mono (body_good (value_even L p) v c C) (body_good (value_even L p) v e D)
      (λ x i. (value_even L p).rises _ _ (given_small L.n c v x C i) (given_small L.n e v x D i) (given_under true L.n c e v x x h (λ z l u. u)))
      L.n _ _ (begin_small d L.n) (begin_small d L.n) (λ z l u. u);
}

module _ (L : Table) (p : Formula) where
  pub value_small : (c : ℕ → ℕ) → Small L.n c → value L p c < 2 ^ L.n
  value_small = (value_even L p).small

  -- in the order turned round too
  value-rises : (d : Bool) (c e : ℕ → ℕ) → Small L.n c → Small L.n e → Under d L.n c e → Sub d L.n (value L p c) (value L p e)
  value-rises true c e C D h = (value_even L p).rises c e C D h
  value-rises false c e C D h = sub_flip true L.n _ _ ((value_even L p).rises e c D C (λ v. sub_flip false L.n (c v) (e v) (h v)))

  -- what a binder's fixed point is taken of
  pub value_good : (v : ℕ) (c : ℕ → ℕ) → Small L.n c → Good L.n (λ s. value L p (given c v s))
  value_good = body_good (value_even L p)

-- ---- binders
module _ (L : Table) (d : Bool) (v : ℕ) (p : Formula) (c : ℕ → ℕ) (C : Small L.n c) where
  -- a binder is a fixed point of its body
  pub fix_fixed : value L p (given c v (value L (fix d v p) c)) ≡ value L (fix d v p) c
  unfolding value
  fix_fixed = settled_fixed d (value_good L p v c C)

  -- what it was for sets below these is where it may go on
  pub fix_climbing : (b : ℕ → ℕ) → Small L.n b → Under d L.n b c → Climbing d L.n (λ s. value L p (given c v s)) (value L (fix d v p) b)
  unfolding value
  fix_climbing b B h =
      let old : ℕ = value L (fix d v p) b in
      let i : old < 2 ^ L.n = value_small L (fix d v p) b B in
      record {
        small = i;
        first = sub_trans d L.n _ (value L p (given b v old)) _
            (sub_refl d L.n _ _ (sym (settled_fixed d (value_good L p v b B))))
            (value-rises L p d _ _ (given_small L.n b v old B i) (given_small L.n c v old C i) (given_under d L.n b c v old old h (λ z l u. u)));
        low = value-rises L (fix d v p) d b c B C h;
      }

  -- from a set that climbs, any iterate that is its own image is the binder's set
  pub fix_stops : (s k : ℕ) → Climbing d L.n (λ s. value L p (given c v s)) s
      → value L p (given c v (iterate (λ s. value L p (given c v s)) s k)) ≡ iterate (λ s. value L p (given c v s)) s k
      → iterate (λ s. value L p (given c v s)) s k ≡ value L (fix d v p) c
  unfolding value
  fix_stops s k S e = climbing_stops d (value_good L p v c C) s S k e

-- ---- only the free variables matter
pub value-free : (L : Table) (p : Formula) (c e : ℕ → ℕ) → ((w : ℕ) → T (free w p) → c w ≡ e w) → value L p c ≡ value L p e
unfolding value free
value-free L (atom a) c e h = refl
value-free L (var v) c e h = h v (eqb_refl v)
value-free L (op or p q) c e h =
    ap₂ (λ x y. set_of L.n (λ s. either (has x s) (has y s)))
    (value-free L p c e (λ w t. h w (either_left _ _ t))) (value-free L q c e (λ w t. h w (either_right _ _ t)))
value-free L (op and p q) c e h =
    ap₂ (λ x y. set_of L.n (λ s. both (has x s) (has y s)))
    (value-free L p c e (λ w t. h w (either_left _ _ t))) (value-free L q c e (λ w t. h w (either_right _ _ t)))
value-free L (op chop p q) c e h = ap (mean_atom L (modality_of p)) (value-free L q c e (λ w t. h w (either_right _ _ t)))
value-free L (fix d v p) c e h =
    ap (λ F. iterate F (begin d L.n) L.n) (fun_ext λ s. value-free L p (given c v s) (given e v s)
    (λ w t. given_two (λ x y. x ≡ y) c e v w s s refl (λ z. h w (both_mk _ _ z t))))
