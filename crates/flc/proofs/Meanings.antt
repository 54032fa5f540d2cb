-- Every meaning is a monotone function and monotone in its environment; what μ and ν mean, over all functions of the language;
-- only the free variables matter; or and and on masks. By induction on the rule, with one case for both binders.
use mathlib.Core.Path.{◌≡◌, refl, sym, ap, ap₂, ◌∙◌, subst⁻¹, subst₂, fun_ext}
use mathlib.Core.Logic.{◌↔◌}
use mathlib.Core.Bool.{Bool, true, false, not, cond}
use Prim.Native.Nat.{ℕ, ◌^◌, ◌<◌}
use lib.Dec.{T, eqb, eqb_refl}
use lib.Pow.{pow_pos}
use lib.Bits.{bit_or, bit_and}
use Rattle.flc.specs.Sets.{both, either, has, set_of}
use Rattle.flc.specs.Functions.{Fun}
use Rattle.flc.specs.Formula.{Table, Atom, top, bottom, tau, prop, nprop, modal, Op, or, and, chop, Formula, atom, var, op, fix}
use Rattle.flc.specs.Formula.{mean_atom, Env, put, mean, none, free}
use Rattle.flc.proofs.Tests.{Rises, both-rises, either-rises, among-rises, both_mk, either_left, either_right}
use Rattle.flc.proofs.Masks.{set_of_lt, or_set_of, and_set_of}
use Rattle.flc.proofs.Order.{below_flip, below_antisym, below_trans, agree-below, good_agree, set_of_sub}
use Rattle.flc.specs.Order.{Below, Agree, Good, GoodEnv}
use Rattle.flc.specs.Iterates.{fixed, Rising}
use Rattle.flc.proofs.FixedPoints.{Steady, fixed_use, fixed_mk, fixed_good, fixed-below, fixed-fixed, fixed-rises}

-- ---- the binary operators and the binders, each as one

-- what an operator makes of two functions
abbrev pub combine : Op → ℕ → Fun → Fun → Fun
combine or n f g = λ x. set_of n (λ s. either (has (f x) s) (has (g x) s))
combine and n f g = λ x. set_of n (λ s. both (has (f x) s) (has (g x) s))
combine chop n f g = λ x. f (g x)

-- a rule with an operator, from its parts
pub mean_op : (L : Table) (o : Op) (p q : Formula) (ρ : Env) → mean L (op o p q) ρ ≡ combine o L.n (mean L p ρ) (mean L q ρ)
unfolding mean
mean_op L or p q ρ = refl
mean_op L and p q ρ = refl
mean_op L chop p q ρ = refl

-- a binder is the fixed point of its body
pub mean_fix : (L : Table) (d : Bool) (v : ℕ) (p : Formula) (ρ : Env) → mean L (fix d v p) ρ ≡ fixed d L.n (λ f. mean L p (put ρ v f))
unfolding mean
mean_fix L true v p ρ = refl
mean_fix L false v p ρ = refl

-- ---- monotone functions

-- one set everywhere
const_good : (n x : ℕ) → x < 2 ^ n → Good n (λ y. x)
const_good n x i = record { small = λ y j. i; mono = λ y z j k u s l t. t }

-- the atoms
atom_good : (L : Table) (a : Atom) → Good L.n (mean_atom L a)
unfolding mean_atom
atom_good L top = const_good L.n _ (set_of_lt L.n _)
atom_good L bottom = const_good L.n _ (set_of_lt L.n _)
atom_good L (prop i) = const_good L.n _ (set_of_lt L.n _)
atom_good L (nprop i) = const_good L.n _ (set_of_lt L.n _)
atom_good L tau = record { small = λ x i. i; mono = λ x y i j u. u }
atom_good L (modal d g) = record {
  small = λ x i. set_of_lt L.n _;
  mono = λ x y i j u. set_of_sub L.n _ _ (λ s k. among-rises d L.n _ _ _ u);
}

-- or and and: what a connective that rises makes of two of them at each state
pointwise_good : (c : Bool → Bool → Bool) → Rises c → {n : ℕ} {f g : Fun} → Good n f → Good n g
    → Good n (λ x. set_of n (λ s. c (has (f x) s) (has (g x) s)))
pointwise_good c C {n} F G = record {
  small = λ x i. set_of_lt n _;
  mono = λ x y i j u. set_of_sub n _ _ (λ s k. C _ _ _ _ (F.mono x y i j u s k) (G.mono x y i j u s k));
}

-- what an operator makes of two of them
combine_good : (o : Op) {n : ℕ} {f g : Fun} → Good n f → Good n g → Good n (combine o n f g)
combine_good or F G = pointwise_good either either-rises F G
combine_good and F G = pointwise_good both both-rises F G
combine_good chop F G = record {
  small = λ x i. F.small _ (G.small x i);
  mono = λ x y i j u. F.mono _ _ (G.small x i) (G.small y j) (G.mono x y i j u);
}

-- which rises with both
combine_rises : (o : Op) {n : ℕ} {f g g' : Fun} (f' : Fun) → Good n f → Good n g → Good n g'
    → Below true n f f' → Below true n g g' → Below true n (combine o n f g) (combine o n f' g')
combine_rises or {n} f' F G G' h k = λ x i. set_of_sub n _ _ (λ s l. either-rises _ _ _ _ (h x i s l) (k x i s l))
combine_rises and {n} f' F G G' h k = λ x i. set_of_sub n _ _ (λ s l. both-rises _ _ _ _ (h x i s l) (k x i s l))
combine_rises chop f' F G G' h k = λ x i s l t. h _ (G'.small x i) s l (F.mono _ _ (G.small x i) (G'.small x i) (k x i) s l t)

-- ---- environments

-- the environment of a root
pub none_good : (n : ℕ) → GoodEnv n none
unfolding none
none_good n v = const_good n 0 (pow_pos n)

-- what holds of f and g, and of two environments at the other variables, holds of them with f and g put in
pub put_two : (Q : Fun → Fun → Type 0) (ρ σ : Env) (v w : ℕ) (f g : Fun)
    → Q f g → (T (not (eqb w v)) → Q (ρ w) (σ w)) → Q (put ρ v f w) (put σ v g w)
unfolding put
put_two Q ρ σ v w f g h =
    elim (eqb w v) as (λ b. (T (not b) → Q (ρ w) (σ w)) → Q (cond b f (ρ w)) (cond b g (σ w))) [ true ↦ λ k. h | false ↦ λ k. k tt ]

-- so with a monotone function put in all are monotone
pub put_good : {n : ℕ} (ρ : Env) (v : ℕ) {f : Fun} → GoodEnv n ρ → Good n f → GoodEnv n (put ρ v f)
put_good {n} ρ v {f} R G w = put_two (λ f g. Good n f) ρ ρ v w f f G (λ t. R w)

-- ---- every meaning is monotone, and rises with its environment

-- m is monotone, and rises with its environment
pub record Nice (n : ℕ) (m : Env → Fun) : Type 0 where
  pub good : (ρ : Env) → GoodEnv n ρ → Good n (m ρ)
  pub rises : (ρ σ : Env) → GoodEnv n ρ → GoodEnv n σ → ((v : ℕ) → Below true n (ρ v) (σ v)) → Below true n (m ρ) (m σ)

-- so the body of a binder keeps functions monotone and in order
body_steady : {n : ℕ} {m : Env → Fun} → Nice n m → (v : ℕ) (ρ : Env) → GoodEnv n ρ → Steady n (λ f. m (put ρ v f))
body_steady {n} N v ρ R = record {
  good = λ f F. N.good (put ρ v f) (put_good ρ v R F);
  rises = λ f g F G h. N.rises _ _ (put_good ρ v R F) (put_good ρ v R G) (λ w. put_two (Below true n) ρ ρ v w f g h (λ t x i s k u. u));
}

-- and the binder is such a one again
fixed_nice : (d : Bool) {n : ℕ} {m : Env → Fun} → Nice n m → (v : ℕ) → Nice n (λ ρ. fixed d n (λ f. m (put ρ v f)))
fixed_nice d {n} N v = record {
  good = λ ρ R. fixed_good d (body_steady N v ρ R);
  rises = λ ρ σ R S h. fixed-rises d (body_steady N v ρ R) (body_steady N v σ S) (λ f F.
      N.rises _ _ (put_good ρ v R F) (put_good σ v S F) (λ w. put_two (Below true n) ρ σ v w f f (λ x i s k u. u) (λ t. h w)));
}

-- every meaning is
pub mean_nice : (L : Table) (p : Formula) → Nice L.n (mean L p)
unfolding mean
mean_nice L (atom a) = record { good = λ ρ R. atom_good L a; rises = λ ρ σ R S h x i s k t. t }
mean_nice L (var v) = record { good = λ ρ R. R v; rises = λ ρ σ R S h. h v }
mean_nice L (op o p q) =
    let P : Nice L.n (mean L p) = mean_nice L p in
    let Q : Nice L.n (mean L q) = mean_nice L q in
    subst⁻¹ (Nice L.n) (fun_ext (mean_op L o p q)) (record {
      good = λ ρ R. combine_good o (P.good ρ R) (Q.good ρ R);
      rises = λ ρ σ R S h. combine_rises o (mean L p σ) (P.good ρ R) (Q.good ρ R) (Q.good σ S) (P.rises ρ σ R S h) (Q.rises ρ σ R S h);
    })
mean_nice L (fix d v p) = subst⁻¹ (Nice L.n) (fun_ext (mean_fix L d v p)) (fixed_nice d (mean_nice L p) v)

-- a value is a set
pub mean_small : (L : Table) (p : Formula) (ρ : Env) → GoodEnv L.n ρ → (x : ℕ) → x < 2 ^ L.n → mean L p ρ x < 2 ^ L.n
mean_small L p ρ R = ((mean_nice L p).good ρ R).small

-- what a binder's fixed point is taken of
pub mean_steady : (L : Table) (p : Formula) (v : ℕ) (ρ : Env) → GoodEnv L.n ρ → Steady L.n (λ f. mean L p (put ρ v f))
mean_steady L p = body_steady (mean_nice L p)

-- a meaning rises with its environment in the order turned round too
mean-rises : (d : Bool) (L : Table) (p : Formula) (ρ σ : Env) → GoodEnv L.n ρ → GoodEnv L.n σ
    → ((v : ℕ) → Below d L.n (ρ v) (σ v)) → Below d L.n (mean L p ρ) (mean L p σ)
mean-rises true L p ρ σ R S h = (mean_nice L p).rises ρ σ R S h
mean-rises false L p ρ σ R S h =
    below_flip true L.n _ _ ((mean_nice L p).rises σ ρ S R (λ v. below_flip false L.n (ρ v) (σ v) (h v)))

-- from what a binder was in an environment below, the iterates of its body rise
pub mean_rising : (d : Bool) (L : Table) (v : ℕ) (p : Formula) (ρ σ : Env) → GoodEnv L.n ρ → GoodEnv L.n σ
    → ((v : ℕ) → Below d L.n (ρ v) (σ v)) → Rising d L.n (λ f. mean L p (put σ v f)) (mean L (fix d v p) ρ)
mean_rising d L v p ρ σ R S h =
    let P : Steady L.n (λ f. mean L p (put ρ v f)) = mean_steady L p v ρ R in
    let G : Good L.n (fixed d L.n (λ f. mean L p (put ρ v f))) = fixed_good d P in
    subst⁻¹ (Rising d L.n (λ f. mean L p (put σ v f))) (mean_fix L d v p ρ) (record {
      good = G;
      first = below_trans d L.n _ (mean L p (put ρ v (fixed d L.n (λ f. mean L p (put ρ v f))))) _
          (agree-below d L.n _ _ (λ x i. sym (fixed-fixed d P x i)))
          (mean-rises d L p _ _ (put_good ρ v R G) (put_good σ v S G) (λ w. put_two (Below d L.n) ρ σ v w _ _ (λ x i s k u. u) (λ t. h w)));
      low = subst₂ (Below d L.n) (mean_fix L d v p ρ) (mean_fix L d v p σ) (mean-rises d L (fix d v p) ρ σ R S h);
    })

-- ---- what the binders say, over all functions of the language
module _ (L : Table) (p : Formula) (v : ℕ) (ρ : Env) (R : GoodEnv L.n ρ) where
  -- a state is in μ at x exactly if it is in f x for every monotone f that the body takes below itself
  pub mu_iff : (x s : ℕ) → x < 2 ^ L.n → s < L.n
      → T (has (mean L (fix true v p) ρ x) s) ↔ ((f : Fun) → Good L.n f → Below true L.n (mean L p (put ρ v f)) f → T (has (f x) s))
  unfolding mean
  mu_iff x s i k = (fixed_use true (mean_steady L p v ρ R) x s i k, fixed_mk true (mean_steady L p v ρ R) x s k)

  -- and in ν at x exactly if it is in f x for some monotone f below its body
  pub nu_iff : (x s : ℕ) → x < 2 ^ L.n → s < L.n
      → T (has (mean L (fix false v p) ρ x) s) ↔ ((f : Fun) × Good L.n f × Below true L.n f (mean L p (put ρ v f)) × T (has (f x) s))
  unfolding mean
  nu_iff x s i k =
      let S : Steady L.n (λ f. mean L p (put ρ v f)) = mean_steady L p v ρ R in (
        λ t. (_, fixed_good false S, agree-below true L.n _ _ (λ x i. sym (fixed-fixed false S x i)), t),
        λ w. below_flip false L.n _ w.0 (fixed-below false S w.0 w.1 (below_flip true L.n w.0 _ w.2)) x i s k w.3,
      )

-- ---- or and and on masks
module _ (L : Table) (p q : Formula) (ρ : Env) (x : ℕ) (R : GoodEnv L.n ρ) (i : x < 2 ^ L.n) where
  -- or is |
  pub mean_or : mean L (op or p q) ρ x ≡ bit_or (mean L p ρ x) (mean L q ρ x)
  unfolding mean
  mean_or = sym (or_set_of L.n _ _ (mean_small L p ρ R x i) (mean_small L q ρ R x i))

  -- and is &
  pub mean_and : mean L (op and p q) ρ x ≡ bit_and (mean L p ρ x) (mean L q ρ x)
  unfolding mean
  mean_and = sym (and_set_of L.n _ _ (mean_small L p ρ R x i) (mean_small L q ρ R x i))

-- ---- only the free variables matter

-- equal at the free variables
pub mean-free : (L : Table) (p : Formula) (ρ σ : Env) → ((w : ℕ) → T (free w p) → ρ w ≡ σ w) → mean L p ρ ≡ mean L p σ
unfolding mean free
mean-free L (atom a) ρ σ h = refl
mean-free L (var v) ρ σ h = h v (eqb_refl v)
mean-free L (op o p q) ρ σ h =
    mean_op L o p q ρ
    ∙ ap₂ (combine o L.n) (mean-free L p ρ σ (λ w t. h w (either_left _ _ t))) (mean-free L q ρ σ (λ w t. h w (either_right _ _ t)))
    ∙ sym (mean_op L o p q σ)
mean-free L (fix d v p) ρ σ h =
    mean_fix L d v p ρ
    ∙ ap (fixed d L.n) (fun_ext λ f. mean-free L p (put ρ v f) (put σ v f) (λ w t.
    put_two (λ f g. f ≡ g) ρ σ v w f f refl (λ e. h w (both_mk _ _ e t))))
    ∙ sym (mean_fix L d v p σ)

-- environments that agree give meanings that agree
mean-agree : (L : Table) (p : Formula) (ρ σ : Env) → GoodEnv L.n ρ → GoodEnv L.n σ
    → ((v : ℕ) → Agree L.n (ρ v) (σ v)) → Agree L.n (mean L p ρ) (mean L p σ)
mean-agree L p ρ σ R S h =
    let N : Nice L.n (mean L p) = mean_nice L p in
    below_antisym true (N.good ρ R) (N.good σ S)
    (N.rises ρ σ R S (λ v. agree-below true L.n (ρ v) (σ v) (h v)))
    (N.rises σ ρ S R (λ v. agree-below true L.n (σ v) (ρ v) (λ x i. sym (h v x i))))

-- an environment cut down to the free variables of p
only : Formula → Env → Env
only p ρ w = cond (free w p) (ρ w) (λ x. 0)

-- what holds of two environments at those, and of empty functions, holds of the two cut down
only_two : (Q : Fun → Fun → Type 0) (p : Formula) (ρ σ : Env) (w : ℕ)
    → (T (free w p) → Q (ρ w) (σ w)) → Q (λ x. 0) (λ x. 0) → Q (only p ρ w) (only p σ w)
unfolding only
only_two Q p ρ σ w h z =
    elim (free w p) as (λ b. (T b → Q (ρ w) (σ w)) → Q (cond b (ρ w) (λ x. 0)) (cond b (σ w) (λ x. 0))) [ true ↦ λ h. h tt | false ↦ λ h. z ] h

-- nothing is lost
only_same : (L : Table) (p : Formula) (ρ : Env) → mean L p ρ ≡ mean L p (only p ρ)
unfolding only
only_same L p ρ = mean-free L p ρ (only p ρ) (λ w.
    elim (free w p) as (λ b. T b → ρ w ≡ cond b (ρ w) (λ x. 0)) [ true ↦ λ t. refl | false ↦ λ t. absurd t ])

-- functions that agree at the free variables and at the sets there are give the same, whatever the others are
pub mean-env : (L : Table) (p : Formula) (ρ σ : Env) → ((w : ℕ) → T (free w p) → Good L.n (σ w))
    → ((w : ℕ) → T (free w p) → Agree L.n (ρ w) (σ w)) → Agree L.n (mean L p ρ) (mean L p σ)
mean-env L p ρ σ S h x i =
    ap (λ f. f x) (only_same L p ρ)
    ∙ mean-agree L p (only p ρ) (only p σ) (good ρ (λ w t. good_agree (ρ w) (h w t) (S w t))) (good σ S)
    (λ w. only_two (Agree L.n) p ρ σ w (h w) (λ x i. refl)) x i
    ∙ ap (λ f. f x) (sym (only_same L p σ))
  where
    good : (ρ : Env) → ((w : ℕ) → T (free w p) → Good L.n (ρ w)) → GoodEnv L.n (only p ρ)
    good ρ h w = only_two (λ f g. Good L.n f) p ρ ρ w (h w) (const_good L.n 0 (pow_pos L.n))
