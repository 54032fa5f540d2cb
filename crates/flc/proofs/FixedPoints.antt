-- Least and greatest fixed points of a map on functions, as one by the flag: they are the bounds that they should be, and fixed points;
-- the iterates of the map, from anything that they rise from, are below them, and where they stand still they have come to them.
use mathlib.Core.Path.{◌≡◌, refl, sym, ap, ◌∙◌, subst, fun_ext}
use mathlib.Core.Bool.{Bool, true, false, not}
use Prim.Native.Nat.{ℕ, zero, suc, ◌^◌, ◌<◌}
use lib.Dec.{T}
use Rattle.flc.specs.Sets.{both, implies, has, set_of}
use Rattle.flc.specs.Functions.{Fun, below, monotone, for_all_fun, for_some_fun, meet, join, approximant}
use Rattle.flc.proofs.Tests.{implies_use, implies_mk, both_left, both_right, both_mk, not_not, not_both}
use Rattle.flc.proofs.Masks.{has-set_of, set_of_lt}
use Rattle.flc.proofs.Order.{below_flip, below_antisym, agree-below, below_trans, below_use, below_mk, good_mono, good_by, good_agree}
use Rattle.flc.proofs.Order.{monotone_use, monotone_mk, cut, cut_at, for_all_fun_use, for_all_fun_mk}
use Rattle.flc.specs.Order.{signed, In, Below, Agree, Good}
use Rattle.flc.specs.Iterates.{fixed, iterate, Rising}

-- F takes monotone functions to monotone functions and keeps their order
pub record Steady (n : ℕ) (F : Fun → Fun) : Type 0 where
  pub good : (f : Fun) → Good n f → Good n (F f)
  pub rises : (f g : Fun) → Good n f → Good n g → Below true n f g → Below true n (F f) (F g)

-- it keeps the order turned round too
pub steady_rises : (d : Bool) {n : ℕ} {F : Fun → Fun} → Steady n F
    → (f g : Fun) → Good n f → Good n g → Below d n f g → Below d n (F f) (F g)
steady_rises true S f g A B h = S.rises f g A B h
steady_rises false {n} {F} S f g A B h = below_flip true n (F g) (F f) (S.rises g f B A (below_flip false n f g h))

-- and agreement
pub steady_agree : {n : ℕ} {F : Fun → Fun} → Steady n F → (f g : Fun) → Good n f → Good n g → Agree n f g → Agree n (F f) (F g)
steady_agree {n} {F} S f g A B h =
    below_antisym true (S.good f A) (S.good g B) (S.rises f g A B (agree-below true n f g h))
    (S.rises g f B A (agree-below true n g f (λ x i. sym (h x i))))

-- ---- the definitions, as one

-- below; with the flag false: above
abbrev order : Bool → ℕ → Fun → Fun → Bool
order true n f g = below n f g
order false n f g = below n g f

order_use : (d : Bool) (n : ℕ) (f g : Fun) → T (order d n f g) → Below d n f g
order_use true n f g h = below_use n f g h
order_use false n f g h = below_flip true n g f (below_use n g f h)

order_mk : (d : Bool) (n : ℕ) (f g : Fun) → Below d n f g → T (order d n f g)
order_mk true n f g h = below_mk n f g h
order_mk false n f g h = below_mk n g f (below_flip false n f g h)

-- s is in the least at x (is not in the greatest) exactly if it is so for every monotone f that F takes below (above) itself
fixed_test : (d : Bool) (n : ℕ) (F : Fun → Fun) (x s : ℕ) → s < n → signed d (has (fixed d n F x) s)
    ≡ for_all_fun (2 ^ n) (2 ^ n) (λ f. implies (both (monotone n f) (order d n (F f) f)) (signed d (has (f x) s)))
unfolding meet join for_some_fun
fixed_test true n F x s k = has-set_of n _ s k
fixed_test false n F x s k =
    ap not (has-set_of n _ s k) ∙ not_not _
    ∙ (λ i. for_all_fun (2 ^ n) (2 ^ n) (λ f. not_both (both (monotone n f) (below n f (F f))) (has (f x) s) i))

-- it gives sets
fixed_small : (d : Bool) (n : ℕ) (F : Fun → Fun) (x : ℕ) → fixed d n F x < 2 ^ n
unfolding meet join
fixed_small true n F x = set_of_lt n _
fixed_small false n F x = set_of_lt n _

-- nothing is in an approximant 0
none_in : (d : Bool) (n s : ℕ) → s < n → In d (set_of n (λ s. not d)) s → ⊥
none_in true n s k t = subst T (has-set_of n _ s k) t
none_in false n s k t = subst (λ b. T (not b)) (has-set_of n _ s k) t

module _ (d : Bool) {n : ℕ} {F : Fun → Fun} (S : Steady n F) where
  -- what is in the fixed point is in every function that F takes below itself
  pub fixed_use : (x s : ℕ) → x < 2 ^ n → s < n → In d (fixed d n F x) s → (g : Fun) → Good n g → Below d n (F g) g → In d (g x) s
  fixed_use x s i k t g G h =
      let c : Fun = cut (2 ^ n) g in
      let e : Agree n c g = cut_at (2 ^ n) g in
      let C : Good n c = good_agree c e G in
      let b : Below d n (F c) c =
      below_trans d n (F c) (F g) c (steady_rises d S c g C G (agree-below d n c g e))
      (below_trans d n (F g) g c h (agree-below d n g c (λ x i. sym (e x i)))) in
      subst (λ y. In d y s) (e x i)
      (implies_use _ _ (for_all_fun_use (2 ^ n) (2 ^ n) _ (subst T (fixed_test d n F x s k) t) g G.small)
      (both_mk _ _ (monotone_mk C) (order_mk d n (F c) c b)))

  -- and what is in all of them is in the fixed point
  pub fixed_mk : (x s : ℕ) → s < n → ((g : Fun) → Good n g → Below d n (F g) g → In d (g x) s) → In d (fixed d n F x) s
  fixed_mk x s k h =
      subst T (sym (fixed_test d n F x s k)) (for_all_fun_mk (2 ^ n) (2 ^ n) _ (λ f e. implies_mk _ _ (λ t.
      h f (record { small = e; mono = monotone_use n f (both_left _ _ t) }) (order_use d n (F f) f (both_right _ _ t)))))

  -- it is monotone
  pub fixed_good : Good n (fixed d n F)
  fixed_good =
      good_by d n (fixed d n F) (λ x i. fixed_small d n F x)
      (λ x y i j u s k t. fixed_mk y s k (λ g G h. good_mono d G x y i j u s k (fixed_use x s i k t g G h)))

  -- a lower bound, and the greatest
  pub fixed-below : (g : Fun) → Good n g → Below d n (F g) g → Below d n (fixed d n F) g
  fixed-below g G h x i s k t = fixed_use x s i k t g G h

  pub fixed_above : (f : Fun) → ((g : Fun) → Good n g → Below d n (F g) g → Below d n f g) → Below d n f (fixed d n F)
  fixed_above f h x i s k t = fixed_mk x s k (λ g G b. h g G b x i s k t)

  -- and a fixed point
  pub fixed-fixed : Agree n (F (fixed d n F)) (fixed d n F)
  fixed-fixed =
      let down : Below d n (F (fixed d n F)) (fixed d n F) =
      fixed_above (F (fixed d n F)) (λ g G h. below_trans d n _ (F g) g (steady_rises d S (fixed d n F) g fixed_good G (fixed-below g G h)) h) in
      let good : Good n (F (fixed d n F)) = S.good (fixed d n F) fixed_good in
      below_antisym d good fixed_good down
      (fixed-below (F (fixed d n F)) good (steady_rises d S (F (fixed d n F)) (fixed d n F) good fixed_good down))

-- ---- iterates
-- those of a monotone function are monotone
iterates_good : {n : ℕ} {F : Fun → Fun} → Steady n F → (f : Fun) → Good n f → (k : ℕ) → Good n (iterate F f k)
unfolding iterate
iterates_good S f A zero = A
iterates_good {n} {F} S f A (suc k) = S.good (iterate F f k) (iterates_good S f A k)

module _ (d : Bool) {n : ℕ} {F : Fun → Fun} (S : Steady n F) {x : Fun} (R : Rising d n F x) where
  pub iterate_good : (k : ℕ) → Good n (iterate F x k)
  iterate_good = iterates_good S x R.good

  -- each is below the next
  pub iterate-rises : (k : ℕ) → Below d n (iterate F x k) (iterate F x (suc k))
  unfolding iterate
  iterate-rises zero = R.first
  iterate-rises (suc k) = steady_rises d S (iterate F x k) (iterate F x (suc k)) (iterate_good k) (iterate_good (suc k)) (iterate-rises k)

  -- and below the fixed point
  iterate_low : (k : ℕ) → Below d n (iterate F x k) (fixed d n F)
  unfolding iterate
  iterate_low zero = R.low
  iterate_low (suc k) =
      below_trans d n _ (F (fixed d n F)) (fixed d n F)
      (steady_rises d S (iterate F x k) (fixed d n F) (iterate_good k) (fixed_good d S) (iterate_low k))
      (agree-below d n _ _ (fixed-fixed d S))

  -- where they stand still they are the fixed point
  pub iterate_fixed : (k : ℕ) → Agree n (iterate F x k) (iterate F x (suc k)) → Agree n (fixed d n F) (iterate F x k)
  unfolding iterate
  iterate_fixed k e =
      below_antisym d (fixed_good d S) (iterate_good k)
      (fixed-below d S (iterate F x k) (iterate_good k) (agree-below d n _ _ (λ x i. sym (e x i))))
      (iterate_low k)

-- from functions that agree they agree
pub iterate-agree : {n : ℕ} {F : Fun → Fun} → Steady n F → {f g : Fun} → Good n f → Good n g → Agree n f g
    → (k : ℕ) → Agree n (iterate F f k) (iterate F g k)
unfolding iterate
iterate-agree S {f} {g} A B h zero = h
iterate-agree {n} {F} S {f} {g} A B h (suc k) =
    let good : (f : Fun) → Good n f → Good n (iterate F f k) = λ f A. iterates_good S f A k in
    steady_agree S (iterate F f k) (iterate F g k) (good f A) (good g B) (iterate-agree S A B h k)

-- the approximants are the iterates of approximant 0
pub approx_iterate : (d : Bool) (n : ℕ) (F : Fun → Fun) → iterate F (approximant d n F zero) ≡ approximant d n F
unfolding iterate approximant
approx_iterate d n F = fun_ext go
  where
    go : (k : ℕ) → iterate F (approximant d n F zero) k ≡ approximant d n F k
    go zero = refl
    go (suc k) = ap F (go k)

-- what agrees with such a beginning is one
pub rising_agree : (d : Bool) {n : ℕ} {F : Fun → Fun} → Steady n F → {f g : Fun} → Rising d n F f → Agree n g f → Rising d n F g
rising_agree d {n} {F} S {f} {g} R h =
    let good : Good n g = good_agree g h R.good in
    let back : Agree n (F f) (F g) = steady_agree S f g R.good good (λ x i. sym (h x i)) in
    record {
      good = good;
      first = below_trans d n g f (F g) (agree-below d n g f h) (below_trans d n f (F f) (F g) R.first (agree-below d n (F f) (F g) back));
      low = below_trans d n g f (fixed d n F) (agree-below d n g f h) R.low;
    }

-- which is below everything
pub approx_rising : (d : Bool) {n : ℕ} {F : Fun → Fun} → Rising d n F (approximant d n F zero)
unfolding approximant
approx_rising d {n} = record {
  good = record { small = λ x i. set_of_lt n _; mono = λ x y i j u s k t. t };
  first = λ x i s k t. absurd (none_in d n s k t);
  low = λ x i s k t. absurd (none_in d n s k t);
}

-- so they are monotone
pub approx_good : (d : Bool) {n : ℕ} {F : Fun → Fun} → Steady n F → (k : ℕ) → Good n (approximant d n F k)
approx_good d {n} {F} S k = subst (λ A. Good n (A k)) (approx_iterate d n F) (iterate_good d S (approx_rising d) k)

-- a greater map has a greater fixed point: in the flag's order
fixed-up : (d : Bool) {n : ℕ} {F G : Fun → Fun} → Steady n F → Steady n G
    → ((f : Fun) → Good n f → Below d n (F f) (G f)) → Below d n (fixed d n F) (fixed d n G)
fixed-up d {n} {F} {G} S R h = fixed_above d R (fixed d n F) (λ g A b. fixed-below d S g A (below_trans d n (F g) (G g) g (h g A) b))

-- in the order itself, whichever the flag
pub fixed-rises : (d : Bool) {n : ℕ} {F G : Fun → Fun} → Steady n F → Steady n G
    → ((f : Fun) → Good n f → Below true n (F f) (G f)) → Below true n (fixed d n F) (fixed d n G)
fixed-rises true S R h = fixed-up true S R h
fixed-rises false {n} {F} {G} S R h =
    below_flip false n (join n G) (join n F) (fixed-up false R S (λ f A. below_flip true n (F f) (G f) (h f A)))
