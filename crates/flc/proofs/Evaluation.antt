-- The meaning as it can be computed: functions are packed into numbers, and a binder runs until its approximants stand still.
-- What is computed is the meaning, the approximants and the rounds, by induction on the rule.
use mathlib.Core.Path.{◌≡◌, refl, sym, ap, ap₂, ◌∙◌, subst}
use mathlib.Core.Bool.{Bool, true, false, not, cond}
use Prim.Native.Nat.{ℕ, zero, suc, ◌+◌, ◌*◌, ◌^◌, ◌<◌}
use native.Mathlib.Nat.{add-zero, zero-add}
use native.Mathlib.Omega.{arith}
use lib.Dec.{T, eqb, eqb→eq}
use lib.Bits.{bit_or, bit_and}
use Rattle.flc.specs.Sets.{first, set_of}
use Rattle.flc.specs.Functions.{Fun, agree, approximant, rounds}
use Rattle.flc.specs.Formula.{Table, Op, or, and, chop, Formula, atom, var, op, fix, mean_atom, Env, put, mean, none}
use Rattle.flc.specs.Nodes.{Node, leaf, two, bind, tree, lower, formula_at, approximant_of, rounds_of, rounds_at}
use Rattle.flc.proofs.Masks.{or_set_of, and_set_of}
use Rattle.flc.specs.Order.{Agree, Good, GoodEnv}
use Rattle.flc.proofs.FixedPoints.{approx_good}
use Rattle.flc.proofs.Rounds.{fixed_late}
use Rattle.flc.proofs.Packing.{look, packed, packed-agree, look_packed, packed-eqb}
use Rattle.flc.proofs.Meanings.{combine, mean_op, mean_fix, none_good, put_good, mean_nice, mean_steady}

-- ---- what is computed

abbrev once : ℕ × ℕ → ℕ × ℕ
once r = (r.0, suc r.1)

-- F again and again from t, at most k times, until it stands still; and how often
unfoldable pub loop : (ℕ → ℕ) → ℕ → ℕ → ℕ × ℕ
loop F zero t = (t, 0)
loop F (suc k) t =
    let u : ℕ = F t in
    let r : ℕ × ℕ = once (loop F k u) in
    cond (eqb t u) (t, 0) r

-- an environment of packed functions, with t for v
unfoldable pub set : (ℕ → ℕ) → ℕ → ℕ → ℕ → ℕ
set τ v t w = cond (eqb w v) t (τ w)

-- approximant 0
unfoldable pub start : Bool → ℕ → ℕ
start d n = packed n (λ x. set_of n (λ s. not d))

-- the operators on masks
unfoldable pub on_masks : Op → Fun → Fun → Fun
on_masks or f g x = bit_or (f x) (g x)
on_masks and f g x = bit_and (f x) (g x)
on_masks chop f g x = f (g x)

-- the meaning, packed. What the environment does not change is computed before it is known
unfoldable pub eval : Table → Formula → (ℕ → ℕ) → ℕ
eval L (atom a) =
    let t : ℕ = packed L.n (mean_atom L a) in
    λ τ. t
eval L (var v) = λ τ. τ v
eval L (op o p q) =
    let P : (ℕ → ℕ) → ℕ = eval L p in
    let Q : (ℕ → ℕ) → ℕ = eval L q in
    λ τ.
    let a : ℕ = P τ in
    let b : ℕ = Q τ in
    packed L.n (on_masks o (look (2 ^ L.n) a) (look (2 ^ L.n) b))
eval L (fix d v p) =
    let P : (ℕ → ℕ) → ℕ = eval L p in
    let z : ℕ = start d L.n in
    λ τ. (loop (λ t. P (set τ v t)) (L.n * 2 ^ L.n) z).0

-- the environment of a root
unfoldable pub nowhere : ℕ → ℕ → ℕ
nowhere n v = packed n (none v)

-- at most k rounds of a node, and how many it took
unfoldable pub run_node : Table → Node → (ℕ → Formula) → ℕ → ℕ × ℕ
run_node L (leaf p) φ =
    let t : ℕ = eval L p (nowhere L.n) in
    λ k. (t, 0)
run_node L (two o a b) φ =
    let t : ℕ = eval L (op o (φ a) (φ b)) (nowhere L.n) in
    λ k. (t, 0)
run_node L (bind d v b) φ =
    let P : (ℕ → ℕ) → ℕ = eval L (φ b) in
    let z : ℕ = start d L.n in
    λ k. loop (λ t. P (set (nowhere L.n) v t)) k z

-- of the root j of a list of nodes
unfoldable pub run : Table → (ℕ → Node) → ℕ → ℕ → ℕ × ℕ
run L N j = run_node L (N j) (lower N j)

-- ---- the loop and the operators

-- an operator on packed functions
masks_right : (o : Op) {n : ℕ} {f g : Fun} → Good n f → Good n g
    → Agree n (on_masks o (look (2 ^ n) (packed n f)) (look (2 ^ n) (packed n g))) (combine o n f g)
unfolding on_masks
masks_right or {n} F G x i = ap₂ bit_or (look_packed F x i) (look_packed G x i) ∙ or_set_of n _ _ (F.small x i) (G.small x i)
masks_right and {n} F G x i = ap₂ bit_and (look_packed F x i) (look_packed G x i) ∙ and_set_of n _ _ (F.small x i) (G.small x i)
masks_right chop {n} {f} F G x i = ap (look (2 ^ n) (packed n f)) (look_packed G x i) ∙ look_packed F _ (G.small x i)

-- ---- the loop follows a sequence of functions
module _ (n : ℕ) (F : ℕ → ℕ) where
  abbrev Follows : (ℕ → Fun) → Type 0
  Follows A = (i : ℕ) → F (packed n (A i)) ≡ packed n (A (suc i))

  -- from where it stands still
  stays : (A : ℕ → Fun) → Follows A → packed n (A zero) ≡ packed n (A 1) → (k : ℕ) → packed n (A zero) ≡ packed n (A k)
  stays A h e zero = refl
  stays A h e (suc k) = e ∙ sym (h zero) ∙ ap F (stays A h e k) ∙ h k

  -- it ends at element k, though it may stop earlier
  loop_last : (k : ℕ) (A : ℕ → Fun) → Follows A → (loop F k (packed n (A zero))).0 ≡ packed n (A k)
  unfolding loop
  loop_last zero A h = refl
  loop_last (suc k) A h =
      let t : ℕ = packed n (A zero) in
      elim (eqb t (F t)) as (λ b. (T b → t ≡ F t) → (cond b (t, 0) (once (loop F k (F t)))).0 ≡ packed n (A (suc k))) [
        | true ↦ λ e. stays A h (e tt ∙ h zero) (suc k)
        | false ↦ λ e. ap (λ t. (loop F k t).0) (h zero) ∙ loop_last k (λ i. A (suc i)) (λ i. h (suc i))
      ]
      (eqb→eq t (F t))

  module _ (A : ℕ → Fun) (G : (i : ℕ) → Good n (A i)) (h : Follows A) where
    -- and stops at the first that equals the next
    loop_rounds : (k i : ℕ) → i + (loop F k (packed n (A i))).1 ≡ first (λ i. agree n (A i) (A (suc i))) i k
    unfolding loop first
    loop_rounds zero i = add-zero i
    loop_rounds (suc k) i =
        let t : ℕ = packed n (A i) in
        let e : eqb t (F t) ≡ agree n (A i) (A (suc i)) = ap (eqb t) (h i) ∙ packed-eqb (G i) (G (suc i)) in
        let r : suc i + (loop F k (F t)).1 ≡ first (λ i. agree n (A i) (A (suc i))) (suc i) k =
        ap (λ t. suc i + (loop F k t).1) (h i) ∙ loop_rounds k (suc i) in
        subst (λ b. i + (cond b (t, 0) (once (loop F k (F t)))).1 ≡ first (λ i. agree n (A i) (A (suc i))) i (suc k)) (sym e)
        (elim (agree n (A i) (A (suc i))) as (λ b. i + (cond b (t, 0) (once (loop F k (F t)))).1 ≡ cond b i (first (λ i. agree n (A i) (A (suc i))) (suc i) k))
        [ true ↦ add-zero i | false ↦ omega arith ])

-- ---- the computed meaning is the meaning

-- τ holds the functions of ρ, packed
abbrev Packs : ℕ → (ℕ → ℕ) → Env → Type 0
Packs n τ ρ = (w : ℕ) → τ w ≡ packed n (ρ w)

-- also with a function put in
set_packs : (n : ℕ) (τ : ℕ → ℕ) (ρ : Env) (v : ℕ) (f : Fun) → Packs n τ ρ → Packs n (set τ v (packed n f)) (put ρ v f)
unfolding set put
set_packs n τ ρ v f h w =
    elim (eqb w v) as (λ b. cond b (packed n f) (τ w) ≡ packed n (cond b f (ρ w))) [ true ↦ refl | false ↦ h w ]

-- e computes m
abbrev Computes : ℕ → ((ℕ → ℕ) → ℕ) → (Env → Fun) → Type 0
Computes n e m = (τ : ℕ → ℕ) (ρ : Env) → GoodEnv n ρ → Packs n τ ρ → e τ ≡ packed n (m ρ)

-- a binder's loop, where e computes the body
module _ (L : Table) (p : Formula) (e : (ℕ → ℕ) → ℕ) (E : Computes L.n e (mean L p))
    (d : Bool) (v : ℕ) (τ : ℕ → ℕ) (ρ : Env) (R : GoodEnv L.n ρ) (h : Packs L.n τ ρ) where
  A : ℕ → Fun
  A = approximant d L.n (λ f. mean L p (put ρ v f))

  good : (k : ℕ) → Good L.n (A k)
  unfolding A
  good = approx_good d (mean_steady L p v ρ R)

  follow : (k : ℕ) → e (set τ v (packed L.n (A k))) ≡ packed L.n (A (suc k))
  unfolding A approximant
  follow k = E _ (put ρ v (A k)) (put_good ρ v R (good k)) (set_packs L.n τ ρ v (A k) h)

  -- after k rounds it has approximant k
  bound_last : (k : ℕ) → (loop (λ t. e (set τ v t)) k (start d L.n)).0 ≡ packed L.n (A k)
  unfolding A approximant start
  bound_last k = loop_last L.n (λ t. e (set τ v t)) k A follow

  -- in the end the meaning
  bound_mean : (loop (λ t. e (set τ v t)) (L.n * 2 ^ L.n) (start d L.n)).0 ≡ packed L.n (mean L (fix d v p) ρ)
  unfolding A
  bound_mean =
      bound_last (L.n * 2 ^ L.n)
      ∙ packed-agree L.n _ _ (λ x i. sym (fixed_late d (mean_steady L p v ρ R) (L.n * 2 ^ L.n) (omega arith) x i))
      ∙ ap (packed L.n) (sym (mean_fix L d v p ρ))

  -- after as many rounds as rounds says
  bound_rounds : (loop (λ t. e (set τ v t)) (L.n * 2 ^ L.n) (start d L.n)).1 ≡ rounds d L.n (λ f. mean L p (put ρ v f))
  unfolding A approximant rounds start
  bound_rounds = sym (zero-add _) ∙ loop_rounds L.n (λ t. e (set τ v t)) A good follow (L.n * 2 ^ L.n) 0

-- by induction on the rule
eval_mean : (L : Table) (p : Formula) → Computes L.n (eval L p) (mean L p)
unfolding eval mean
eval_mean L (atom a) τ ρ R h = refl
eval_mean L (var v) τ ρ R h = h v
eval_mean L (op o p q) τ ρ R h =
    ap₂ (λ a b. packed L.n (on_masks o (look (2 ^ L.n) a) (look (2 ^ L.n) b))) (eval_mean L p τ ρ R h) (eval_mean L q τ ρ R h)
    ∙ packed-agree L.n _ _ (masks_right o ((mean_nice L p).good ρ R) ((mean_nice L q).good ρ R))
    ∙ ap (packed L.n) (sym (mean_op L o p q ρ))
eval_mean L (fix d v p) τ ρ R h = bound_mean L p (eval L p) (eval_mean L p) d v τ ρ R h

nowhere_packs : (n : ℕ) → Packs n (nowhere n) none
unfolding nowhere
nowhere_packs n w = refl

module _ (L : Table) where
  eval_closed : (p : Formula) → eval L p (nowhere L.n) ≡ packed L.n (mean L p none)
  eval_closed p = eval_mean L p (nowhere L.n) none (none_good L.n) (nowhere_packs L.n)

  value-packed : (p : Formula) (t x : ℕ) → t ≡ packed L.n (mean L p none) → x < 2 ^ L.n → look (2 ^ L.n) t x ≡ mean L p none x
  value-packed p t x e i = ap (λ t. look (2 ^ L.n) t x) e ∙ look_packed ((mean_nice L p).good none (none_good L.n)) x i

  -- the same of a node
  node_mean : (y : Node) (φ : ℕ → Formula) → (run_node L y φ (L.n * 2 ^ L.n)).0 ≡ packed L.n (mean L (tree y φ) none)
  unfolding run_node
  node_mean (leaf p) φ = eval_closed p
  node_mean (two o a b) φ = eval_closed (op o (φ a) (φ b))
  node_mean (bind d v b) φ =
      bound_mean L (φ b) (eval L (φ b)) (eval_mean L (φ b)) d v (nowhere L.n) none (none_good L.n) (nowhere_packs L.n)

  node_rounds : (y : Node) (φ : ℕ → Formula) → (run_node L y φ (L.n * 2 ^ L.n)).1 ≡ rounds_of L y φ
  unfolding run_node rounds_of
  node_rounds (leaf p) φ = refl
  node_rounds (two o a b) φ = refl
  node_rounds (bind d v b) φ =
      bound_rounds L (φ b) (eval L (φ b)) (eval_mean L (φ b)) d v (nowhere L.n) none (none_good L.n) (nowhere_packs L.n)

  node_approx : (y : Node) (φ : ℕ → Formula) (k x : ℕ) → x < 2 ^ L.n → look (2 ^ L.n) (run_node L y φ k).0 x ≡ approximant_of L y φ k x
  unfolding run_node approximant_of A
  node_approx (leaf p) φ k x i = value-packed p _ x (eval_closed p) i
  node_approx (two o a b) φ k x i = value-packed (op o (φ a) (φ b)) _ x (eval_closed (op o (φ a) (φ b))) i
  node_approx (bind d v b) φ k x i =
      ap (λ t. look (2 ^ L.n) t x)
      (bound_last L (φ b) (eval L (φ b)) (eval_mean L (φ b)) d v (nowhere L.n) none (none_good L.n) (nowhere_packs L.n) k)
      ∙ look_packed (approx_good d (mean_steady L (φ b) v none (none_good L.n)) k) x i

  -- ---- the root j of a list of nodes
  module _ (N : ℕ → Node) (j : ℕ) where
    -- its meaning
    pub run_mean : (x : ℕ) → x < 2 ^ L.n → look (2 ^ L.n) (run L N j (L.n * 2 ^ L.n)).0 x ≡ mean L (formula_at N j) none x
    unfolding run formula_at
    run_mean x = value-packed (tree (N j) (lower N j)) _ x (node_mean (N j) (lower N j))

    -- its rounds
    pub run_rounds : (run L N j (L.n * 2 ^ L.n)).1 ≡ rounds_at L N j
    unfolding run rounds_at
    run_rounds = node_rounds (N j) (lower N j)

    -- its approximants
    pub run_approx : (k x : ℕ) → x < 2 ^ L.n → look (2 ^ L.n) (run L N j k).0 x ≡ approximant_of L (N j) (lower N j) k x
    unfolding run
    run_approx = node_approx (N j) (lower N j)
