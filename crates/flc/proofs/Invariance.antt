-- Rules cannot tell apart what a bisimulation relates: it takes corresponding sets to corresponding sets.
-- By induction on the rule; for a binder by induction on the round, since both tables have come to their fixed points late enough.
use mathlib.Core.Path.{◌≡◌, refl, sym, ap, ap₂, ◌∙◌, subst, subst₂}
use mathlib.Core.Bool.{Bool, true, false, not}
use Prim.Native.Nat.{ℕ, zero, suc, ◌+◌, ◌*◌, ◌^◌, ◌<◌}
use native.Mathlib.Omega.{arith}
use lib.Dec.{T}
use Rattle.flc.specs.Sets.{both, either, among, has, set_of}
use Rattle.flc.specs.Functions.{Fun, approximant}
use Rattle.flc.specs.Formula.{Table, Atom, top, bottom, tau, prop, nprop, modal, or, and, chop, Formula, atom, var, op, fix, Env, put}
use Rattle.flc.specs.Formula.{actions, steps_by, mean_atom, mean}
use Rattle.flc.proofs.Tests.{bool_ext, both_left, both_right, both_mk, implies_use, implies_mk, for_all_use, for_all_mk, for_some_use, for_some_mk}
use Rattle.flc.proofs.Masks.{has-set_of}
use Rattle.flc.specs.Order.{Agree, GoodEnv}
use Rattle.flc.proofs.FixedPoints.{approx_good}
use Rattle.flc.proofs.Rounds.{fixed_late}
use Rattle.flc.proofs.Meanings.{put_two, put_good, mean_fix, mean_small, mean_steady}

-- each step of the state s of L is met by a step of the state t of M with the same action into a related state
abbrev pub Met : (L M : Table) → (ℕ → ℕ → Type 0) → ℕ → ℕ → Type 0
Met L M R s t = (a s' : ℕ) → s' < L.n → T (L.step s a s') → (t' : ℕ) × (t' < M.n) × T (M.step t a t') × R s' t'

-- states that a bisimulation R may relate
pub record Matched (L M : Table) (R : ℕ → ℕ → Type 0) (s t : ℕ) : Type 0 where
  pub labels : L.label s ≡ M.label t
  pub forth : Met L M R s t
  pub back : Met M L (λ y x. R x y) t s

-- R is a bisimulation between the states of L and those of M
abbrev pub Bisim : (L M : Table) → (ℕ → ℕ → Type 0) → Type 0
Bisim L M R = (s t : ℕ) → s < L.n → t < M.n → R s t → Matched L M R s t

module _ (L M : Table) (R : ℕ → ℕ → Type 0) where
  -- related states are in both sets or in neither
  abbrev pub Corr : ℕ → ℕ → Type 0
  Corr x y = (s t : ℕ) → s < L.n → t < M.n → R s t → has x s ≡ has y t

  -- functions that take corresponding sets to corresponding sets
  abbrev pub Rel : Fun → Fun → Type 0
  Rel f g = (x y : ℕ) → x < 2 ^ L.n → y < 2 ^ M.n → Corr x y → Corr (f x) (g y)

-- ---- the steps of a group
-- a step is met by one of the same group
met_by : (L M : Table) (R : ℕ → ℕ → Type 0) (s t g : ℕ) → Met L M R s t
    → (s' : ℕ) → s' < L.n → T (steps_by L g s s') → (t' : ℕ) × (t' < M.n) × T (steps_by M g t t') × R s' t'
unfolding steps_by
met_by L M R s t g m s' k u =
    let (a, i, e) = for_some_use actions _ u in
    let (t', l, w, r) = m a s' k (both_right _ _ e) in
    (t', l, for_some_mk actions _ a i (both_mk _ _ (both_left _ _ e) w), r)

-- what goes into x on one side goes into y on the other
modal_kept : (d : Bool) (L M : Table) (R : ℕ → ℕ → Type 0) (s t g x y : ℕ) → Met L M R s t → Met M L (λ t s. R s t) t s → Corr L M R x y
    → T (among d L.n (steps_by L g s) (has x)) → T (among d M.n (steps_by M g t) (has y))
unfolding among
modal_kept true L M R s t g x y forth back c u =
    let (s', k, e) = for_some_use L.n _ u in
    let (t', l, w, r) = met_by L M R s t g forth s' k (both_left _ _ e) in
    for_some_mk M.n _ t' l (both_mk _ _ w (subst T (c s' t' k l r) (both_right _ _ e)))
modal_kept false L M R s t g x y forth back c u = for_all_mk M.n _ (λ t' l. implies_mk _ _ (λ e.
    let (s', k, w, r) = met_by M L (λ t s. R s t) t s g back t' l e in
    subst T (c s' t' k l r) (implies_use _ _ (for_all_use L.n _ u s' k) w)))

-- ---- rules
module _ (L M : Table) (R : ℕ → ℕ → Type 0) where
  -- tests that agree at related states have corresponding sets
  corr_set_of : (p q : ℕ → Bool) → ((s t : ℕ) → s < L.n → t < M.n → R s t → p s ≡ q t) → Corr L M R (set_of L.n p) (set_of M.n q)
  corr_set_of p q h s t k l r = has-set_of L.n p s k ∙ h s t k l r ∙ sym (has-set_of M.n q t l)

  -- what agrees with such functions is such
  rel_agree : (f f' g g' : Fun) → Agree L.n f f' → Agree M.n g g' → Rel L M R f' g' → Rel L M R f g
  rel_agree f f' g g' a b h x y i j c s t k l r = ap (λ z. has z s) (a x i) ∙ h x y i j c s t k l r ∙ ap (λ z. has z t) (sym (b y j))

  module _ (B : Bisim L M R) where
    -- the atoms
    atom_kept : (a : Atom) → Rel L M R (mean_atom L a) (mean_atom M a)
    unfolding mean_atom
    atom_kept top x y i j c = corr_set_of _ _ (λ s t k l r. refl)
    atom_kept bottom x y i j c = corr_set_of _ _ (λ s t k l r. refl)
    atom_kept (prop a) x y i j c = corr_set_of _ _ (λ s t k l r. ap (λ z. has z a) (B s t k l r).labels)
    atom_kept (nprop a) x y i j c = corr_set_of _ _ (λ s t k l r. ap (λ z. not (has z a)) (B s t k l r).labels)
    atom_kept tau x y i j c = c
    atom_kept (modal d g) x y i j c = corr_set_of _ _ (λ s t k l r.
        let m = B s t k l r in
        bool_ext _ _
        (modal_kept d L M R s t g x y m.forth m.back c)
        (modal_kept d M L (λ t s. R s t) t s g y x m.back m.forth (λ t s l k r. sym (c s t k l r))))

    -- meanings that do so if the functions of the variables do
    abbrev Kept : (Env → Fun) → (Env → Fun) → Type 0
    Kept m m' = (ρ σ : Env) → GoodEnv L.n ρ → GoodEnv M.n σ → ((v : ℕ) → Rel L M R (ρ v) (σ v)) → Rel L M R (m ρ) (m' σ)

    -- the binders
    fix_kept : (d : Bool) (v : ℕ) (p : Formula) → Kept (mean L p) (mean M p) → Kept (mean L (fix d v p)) (mean M (fix d v p))
    unfolding approximant
    fix_kept d v p ih ρ σ P Q h =
        subst₂ (Rel L M R) (sym (mean_fix L d v p ρ)) (sym (mean_fix M d v p σ))
        (rel_agree _ (A late) _ (C late)
        (fixed_late d (mean_steady L p v ρ P) late (omega arith)) (fixed_late d (mean_steady M p v σ Q) late (omega arith)) (near late))
      where
        A : ℕ → Fun
        A = approximant d L.n (λ f. mean L p (put ρ v f))

        C : ℕ → Fun
        C = approximant d M.n (λ f. mean M p (put σ v f))

        late : ℕ
        late = L.n * 2 ^ L.n + M.n * 2 ^ M.n

        near : (k : ℕ) → Rel L M R (A k) (C k)
        near zero = λ x y i j c. corr_set_of _ _ (λ s t k l r. refl)
        near (suc k) =
            ih (put ρ v (A k)) (put σ v (C k))
            (put_good ρ v P (approx_good d (mean_steady L p v ρ P) k)) (put_good σ v Q (approx_good d (mean_steady M p v σ Q) k))
            (λ w. put_two (Rel L M R) ρ σ v w (A k) (C k) (near k) (λ t. h w))

    -- all rules
    pub mean-kept : (p : Formula) (ρ σ : Env) → GoodEnv L.n ρ → GoodEnv M.n σ → ((v : ℕ) → Rel L M R (ρ v) (σ v))
        → Rel L M R (mean L p ρ) (mean M p σ)
    unfolding mean
    mean-kept (atom a) ρ σ P Q h = atom_kept a
    mean-kept (var v) ρ σ P Q h = h v
    mean-kept (op or p q) ρ σ P Q h = λ x y i j c.
        corr_set_of _ _ (λ s t k l r. ap₂ either (mean-kept p ρ σ P Q h x y i j c s t k l r) (mean-kept q ρ σ P Q h x y i j c s t k l r))
    mean-kept (op and p q) ρ σ P Q h = λ x y i j c.
        corr_set_of _ _ (λ s t k l r. ap₂ both (mean-kept p ρ σ P Q h x y i j c s t k l r) (mean-kept q ρ σ P Q h x y i j c s t k l r))
    mean-kept (op chop p q) ρ σ P Q h = λ x y i j c.
        mean-kept p ρ σ P Q h _ _ (mean_small L q ρ P x i) (mean_small M q σ Q y j) (mean-kept q ρ σ P Q h x y i j c)
    mean-kept (fix d v p) ρ σ P Q h = fix_kept d v p (mean-kept p) ρ σ P Q h
