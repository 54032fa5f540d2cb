-- Laws of containment of sets and of the order of functions; what the tests of that order say; all functions on finitely many numbers.
-- By cases on the flag, and by what a test over finitely many numbers says of each of them.
use mathlib.Core.Path.{◌≡◌, refl, sym, subst}
use mathlib.Core.Bool.{Bool, true, false, not}
use Prim.Native.Nat.{ℕ, zero, suc, ◌^◌, ◌<◌, suc-le-suc}
use native.Mathlib.Nat.{le_of_suc-le-suc, not-suc-le-zero}
use native.Mathlib.Omega.{arith}
use lib.Dec.{T, eqb→eq, eqb_refl, T_not, not_T}
use Rattle.flc.specs.Sets.{has, set_of}
use Rattle.flc.specs.Functions.{Fun, contained, below, monotone, agree, cons, for_all_fun, for_some_fun}
use Rattle.flc.specs.Order.{signed, In, Sub, Below, Agree, Good}
use Rattle.flc.proofs.Tests.{bool_ext, implies_use, implies_mk, not_not, for_all_use, for_all_mk, for_all_fails}
use Rattle.flc.proofs.Masks.{has-set_of, set_ext}

-- ---- laws of the order

-- the order turned round
flip : (d a b : Bool) → (T (signed d a) → T (signed d b)) → T (signed (not d) b) → T (signed (not d) a)
flip true a b h k = not_T a (λ t. T_not b k (h t))
flip false true b h k = tt
flip false false b h k = absurd (T_not b (h tt) k)

pub sub_flip : (d : Bool) (n x y : ℕ) → Sub d n x y → Sub (not d) n y x
sub_flip d n x y h s k = flip d (has x s) (has y s) (h s k)

pub below_flip : (d : Bool) (n : ℕ) (f g : Fun) → Below d n f g → Below (not d) n g f
below_flip d n f g h x i = sub_flip d n (f x) (g x) (h x i)

-- what is below and above is equal
pub sub_antisym : (d : Bool) (n x y : ℕ) → x < 2 ^ n → y < 2 ^ n → Sub d n x y → Sub d n y x → x ≡ y
sub_antisym true n x y i j h k = set_ext n x y i j (λ s l. bool_ext (has x s) (has y s) (h s l) (k s l))
sub_antisym false n x y i j h k = set_ext n x y i j (λ s l. bool_ext (has x s) (has y s) (sub_flip false n y x k s l) (sub_flip false n x y h s l))

pub below_antisym : (d : Bool) {n : ℕ} {f g : Fun} → Good n f → Good n g → Below d n f g → Below d n g f → Agree n f g
below_antisym d {n} {f} {g} F G h k x i = sub_antisym d n (f x) (g x) (F.small x i) (G.small x i) (h x i) (k x i)

-- transitive, and reflexive up to agreement
pub below_trans : (d : Bool) (n : ℕ) (f g h : Fun) → Below d n f g → Below d n g h → Below d n f h
below_trans d n f g h a b x i s k t = b x i s k (a x i s k t)

pub agree-below : (d : Bool) (n : ℕ) (f g : Fun) → Agree n f g → Below d n f g
agree-below d n f g e x i s k t = subst (λ y. In d y s) (e x i) t

-- monotone is monotone in either order
pub good_mono : (d : Bool) {n : ℕ} {f : Fun} → Good n f → (x y : ℕ) → x < 2 ^ n → y < 2 ^ n → Sub d n x y → Sub d n (f x) (f y)
good_mono true F x y i j h = F.mono x y i j h
good_mono false {n} {f} F x y i j h = sub_flip true n (f y) (f x) (F.mono y x j i (sub_flip false n x y h))

pub good_by : (d : Bool) (n : ℕ) (f : Fun) → ((x : ℕ) → x < 2 ^ n → f x < 2 ^ n)
    → ((x y : ℕ) → x < 2 ^ n → y < 2 ^ n → Sub d n x y → Sub d n (f x) (f y)) → Good n f
good_by true n f a b = record { small = a; mono = b }
good_by false n f a b = record { small = a; mono = λ x y i j u. sub_flip false n (f y) (f x) (b y x j i (sub_flip true n x y u)) }

-- what agrees with a monotone function is one
pub good_agree : {n : ℕ} (f : Fun) {g : Fun} → Agree n f g → Good n g → Good n f
good_agree {n} f e G = record {
  small = λ x i. rw (e x i) (G.small x i);
  mono = λ x y i j u s k t. subst (λ z. In true z s) (sym (e y j)) (G.mono x y i j u s k (subst (λ z. In true z s) (e x i) t));
}

-- a weaker test has a larger set
pub set_of_sub : (n : ℕ) (p q : ℕ → Bool) → ((s : ℕ) → s < n → T (p s) → T (q s)) → Sub true n (set_of n p) (set_of n q)
set_of_sub n p q h s k t = subst T (sym (has-set_of n q s k)) (h s k (subst T (has-set_of n p s k) t))

-- ---- the tests: `use` says what a passed one says, `mk` passes it

-- contained
pub contained_use : (n x y : ℕ) → T (contained n x y) → Sub true n x y
unfolding contained
contained_use n x y h s k t = implies_use _ _ (for_all_use n _ h s k) t

pub contained_mk : (n x y : ℕ) → Sub true n x y → T (contained n x y)
unfolding contained
contained_mk n x y h = for_all_mk n _ (λ s k. implies_mk _ _ (h s k))

-- below
pub below_use : (n : ℕ) (f g : Fun) → T (below n f g) → Below true n f g
unfolding below
below_use n f g h x i = contained_use n (f x) (g x) (for_all_use (2 ^ n) _ h x i)

pub below_mk : (n : ℕ) (f g : Fun) → Below true n f g → T (below n f g)
unfolding below
below_mk n f g h = for_all_mk (2 ^ n) _ (λ x i. contained_mk n (f x) (g x) (h x i))

-- monotone
pub monotone_use : (n : ℕ) (f : Fun) → T (monotone n f) → (x y : ℕ) → x < 2 ^ n → y < 2 ^ n → Sub true n x y → Sub true n (f x) (f y)
unfolding monotone
monotone_use n f h x y i j k =
    contained_use n (f x) (f y) (implies_use _ _ (for_all_use (2 ^ n) _ (for_all_use (2 ^ n) _ h x i) y j) (contained_mk n x y k))

pub monotone_mk : {n : ℕ} {f : Fun} → Good n f → T (monotone n f)
unfolding monotone
monotone_mk {n} {f} F =
    for_all_mk (2 ^ n) _ (λ x i. for_all_mk (2 ^ n) _ (λ y j. implies_mk _ _ (λ t. contained_mk n (f x) (f y) (F.mono x y i j (contained_use n x y t)))))

-- agree
pub agree_use : (n : ℕ) (f g : Fun) → T (agree n f g) → Agree n f g
unfolding agree
agree_use n f g h x i = eqb→eq (f x) (g x) (for_all_use (2 ^ n) _ h x i)

pub agree_mk : (n : ℕ) (f g : Fun) → Agree n f g → T (agree n f g)
unfolding agree
agree_mk n f g h = for_all_mk (2 ^ n) _ (λ x i. rw (h x i) (eqb_refl (g x)))

-- ---- all functions from the numbers below k to the numbers below b

-- f at the numbers below k: the function that is gone through for it
pub cut : ℕ → Fun → Fun
cut zero f = λ x. 0
cut (suc k) f = cons (f zero) (cut k (λ x. f (suc x)))

pub cut_at : (k : ℕ) (f : Fun) (x : ℕ) → x < k → cut k f x ≡ f x
unfolding cut
cut_at zero f x h = absurd (not-suc-le-zero h)
cut_at (suc k) f zero h = refl
cut_at (suc k) f (suc x) h = cut_at k (λ x. f (suc x)) x (le_of_suc-le-suc h)

-- of every function
pub for_all_fun_use : (k b : ℕ) (p : Fun → Bool) → T (for_all_fun k b p) → (f : Fun) → ((x : ℕ) → x < k → f x < b) → T (p (cut k f))
unfolding for_all_fun cut
for_all_fun_use zero b p h f e = h
for_all_fun_use (suc k) b p h f e =
    for_all_fun_use k b (λ g. p (cons (f zero) g)) (for_all_use b _ h (f zero) (e zero (omega arith))) (λ x. f (suc x)) (λ x i. e (suc x) (suc-le-suc i))

pub for_all_fun_mk : (k b : ℕ) (p : Fun → Bool) → ((f : Fun) → ((x : ℕ) → x < k → f x < b) → T (p f)) → T (for_all_fun k b p)
unfolding for_all_fun
for_all_fun_mk zero b p h = h (λ x. 0) (λ x i. absurd (not-suc-le-zero i))
for_all_fun_mk (suc k) b p h =
    for_all_mk b _ (λ v i. for_all_fun_mk k b (λ g. p (cons v g)) (λ g e. h (cons v g)
    (elim [ zero ↦ λ j. i | suc x ↦ λ j. e x (le_of_suc-le-suc j) ])))

-- what does not hold of every function fails at some
for_all_fun_fails : (k b : ℕ) (p : Fun → Bool) → T (not (for_all_fun k b p)) → (f : Fun) × T (not (p f))
unfolding for_all_fun
for_all_fun_fails zero b p h = ((λ x. 0), h)
for_all_fun_fails (suc k) b p h =
    let (v, i, u) = for_all_fails b (λ v. for_all_fun k b (λ f. p (cons v f))) h in
    let (f, w) = for_all_fun_fails k b (λ f. p (cons v f)) u in
    (cons v f, w)

-- of some function
pub for_some_fun_use : (k b : ℕ) (p : Fun → Bool) → T (for_some_fun k b p) → (f : Fun) × T (p f)
unfolding for_some_fun
for_some_fun_use k b p h = let (f, u) = for_all_fun_fails k b (λ f. not (p f)) h in (f, subst T (not_not (p f)) u)

pub for_some_fun_mk : (k b : ℕ) (p : Fun → Bool) (f : Fun) → ((x : ℕ) → x < k → f x < b) → T (p (cut k f)) → T (for_some_fun k b p)
unfolding for_some_fun
for_some_fun_mk k b p f e t =
    not_T (for_all_fun k b (λ f. not (p f))) (λ h. T_not (p (cut k f)) (for_all_fun_use k b (λ f. not (p f)) h f e) t)
