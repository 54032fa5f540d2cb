-- What stays in the work area when blocks are filled, and with it the functions of the active variables.
-- Blocks lie apart, so that filling one leaves the others; the binders of active variables lie above all that a call may change.
use Prim.Native.Nat.{ℕ, suc, ◌+◌, ◌*◌, ◌^◌, ◌≤◌, ◌<◌}
use mathlib.Core.Bool.{true, false, cond}
use mathlib.Core.List.{List}
use mathlib.Core.Path.{◌≡◌, refl, sym, ap, ◌∙◌, subst, fun_ext}
use native.Mathlib.Decide.{ℕ_discrete}
use native.Mathlib.Nat.{suc-mul, mul-le-mul_right}
use native.Mathlib.Omega.{arith}
use borrow.Author.Tests.{eq-eqb, ne_eqb}
use lib.Bits.{bit_or, or_lt}
use lib.Dec.{T, ltb, ltb→lt, lt→ltb, eqb, eqb→eq}
use Rattle.flc.specs.Sets.{both, either, has}
use Rattle.flc.specs.Functions.{Fun}
use Rattle.flc.specs.Formula.{put, none}
use Rattle.flc.proofs.Tests.{bool_ext, both_left, both_right, both_mk, either_left, either_right, either_use}
use Rattle.flc.proofs.Masks.{set_ext, has_or, has-single}
use Rattle.case_model.specs.Limits.{variables}
use Rattle.case_model.specs.Areas.{Filled}
use Rattle.case_model.proofs.Tests.{is_true}
use Rattle.case_plan.specs.Plans.{Plan, Within, Sound, every_mark}
use Rattle.engine.specs.Blocks.{block, Kept, env}

-- ---- words
-- a block ends where a later one begins, or before
pub apart : (size i j : ℕ) → i < j → i * size + size ≤ j * size
apart size i j h = omega (arith, suc-mul i size, mul-le-mul_right {m = suc i} {n = j} size h)

-- the entries of a table are those of the sets
pub in_table : {p : Plan} → Sound p → (x : ℕ) → x < 2 ^ p.states → x < p.size
in_table S x k = subst (λ m. x < m) (sym S.sized.size) k

pub in_sets : {p : Plan} → Sound p → (x : ℕ) → x < p.size → x < 2 ^ p.states
in_sets S x h = subst (λ m. x < m) S.sized.size h

pub kept-none : (p : Plan) (w : List ℕ) (k : ℕ) → Kept p w w k
kept-none p w k = record { long = refl; above = λ q h. refl }

-- a block from k on
pub kept_block : {p : Plan} {w v : List ℕ} {k : ℕ} → Kept p w v k → (i x : ℕ) → k ≤ i → block p v i x ≡ block p w i x
kept_block {p} {w} {v} {k} K i x h = K.above (i * p.size + x) (omega (arith, mul-le-mul_right {m = k} {n = i} p.size h))

pub kept-up : {p : Plan} {w v : List ℕ} {j k : ℕ} → Kept p w v j → j ≤ k → Kept p w v k
kept-up {p} {w} {v} {j} {k} K l = record {
  long = K.long;
  above = λ q h. K.above q (omega (arith, mul-le-mul_right {m = j} {n = k} p.size l));
}

pub kept_trans : {p : Plan} {w v u : List ℕ} {j k : ℕ} → Kept p w v j → Kept p v u k → j ≤ k → Kept p w u k
kept_trans K H l = record { long = H.long ∙ K.long; above = λ q h. H.above q h ∙ (kept-up K l).above q h }

pub filled_kept : (p : Plan) {w v : List ℕ} {j : ℕ} {f : Fun} → Filled w v (j * p.size) p.size f → Kept p w v (suc j)
filled_kept p {w} {v} {j} S = record { long = S.long; above = λ q l. S.over q (omega (arith, apart p.size j (suc j) (omega arith))) }

pub filled_lower : (p : Plan) {w v : List ℕ} {j : ℕ} {f : Fun} → Filled w v (j * p.size) p.size f
    → (i x : ℕ) → i < j → x < p.size → block p v i x ≡ block p w i x
filled_lower p {w} {v} {j} S i x l h = S.under (i * p.size + x) (omega (arith, apart p.size i j l))

-- ---- masks
-- u | act is act just if u is within act
pub or_within : (u act : ℕ) → bit_or u act ≡ act → Within u act
or_within u act e s k t = subst (λ x. T (has x s)) e (subst T (sym (has_or u act s)) (either_left _ _ t))

pub within_or : (u act : ℕ) → u < 2 ^ 18 → act < 2 ^ 18 → Within u act → bit_or u act ≡ act
within_or u act i j h = set_ext 18 _ _ (or_lt 18 u act i j) j (λ s k.
    has_or u act s ∙ bool_ext _ _ (either_use _ _ (h s k) (λ t. t)) (either_right _ _))

-- the members of act | 2^v
has_wider : (act v u : ℕ) → has (bit_or act (2 ^ v)) u ≡ either (has act u) (eqb v u)
has_wider act v u = has_or act (2 ^ v) u ∙ ap (either (has act u)) (has-single v u)

pub wider_use : {Q : Type 0} (act v u : ℕ) → (T (has act u) → Q) → (u ≡ v → Q) → T (has (bit_or act (2 ^ v)) u) → Q
wider_use act v u f g t = either_use _ _ f (λ s. g (sym (eqb→eq v u s))) (subst T (has_wider act v u) t)

pub wider_mk : (act v u : ℕ) → T (either (has act u) (eqb u v)) → T (has (bit_or act (2 ^ v)) u)
wider_mk act v u t =
    subst T (sym (has_wider act v u)) (either_use _ _ (either_left _ _)
    (λ e. either_right _ _ (subst T (sym (eq-eqb v u (sym (eqb→eq u v e)))) tt)) t)

-- ---- the functions of the active variables
-- they stay where their binders' blocks do
pub env-kept : {p : Plan} {w v : List ℕ} {k : ℕ} (act : ℕ) → Kept p w v k
    → ((u : ℕ) → u < variables → T (has act u) → k ≤ p.homes u) → env p act v ≡ env p act w
unfolding env
env-kept {p} {w} {v} act K h = fun_ext λ u.
    elim (both (ltb u variables) (has act u)) as (λ a. (T a → block p v (p.homes u) ≡ block p w (p.homes u))
    → cond a (block p v (p.homes u)) (λ x. 0) ≡ cond a (block p w (p.homes u)) (λ x. 0))
    [ true ↦ λ f. f tt | false ↦ λ f. refl ]
    (λ t. fun_ext λ x. kept_block K (p.homes u) x (h u (ltb→lt u variables (both_left _ _ t)) (both_right _ _ t)))

-- none with the mark alone
pub env_idle : (p : Plan) (w : List ℕ) → env p every_mark w ≡ none
unfolding env none
env_idle p w = fun_ext λ u.
    elim (both (ltb u variables) (has every_mark u)) as (λ a. (T a → ⊥) → cond a (block p w (p.homes u)) (λ x. 0) ≡ (λ x. 0))
    [ true ↦ λ f. absurd (f tt) | false ↦ λ f. refl ]
    (λ t.
    let e = eqb→eq 16 u (subst T (has-single 16 u) (both_right _ _ t)) in
    omega (arith, ltb→lt u variables (both_left _ _ t)))

-- one more
pub env-wider : (p : Plan) (act v : ℕ) (w : List ℕ) → v < variables → env p (bit_or act (2 ^ v)) w ≡ put (env p act w) v (block p w (p.homes v))
unfolding env put
env-wider p act v w h = fun_ext λ u. elim (ℕ_discrete u v) [
  | yes e ↦
      let a : both (ltb u variables) (has (bit_or act (2 ^ v)) u) ≡ true =
      is_true _ (both_mk _ _ (lt→ltb u variables (omega arith)) (wider_mk act v u (either_right _ _ (subst T (sym (eq-eqb u v e)) tt)))) in
      rw (a, eq-eqb u v e) (ap (λ u. block p w (p.homes u)) e)
  | no e ↦
      let a : has (bit_or act (2 ^ v)) u ≡ has act u =
      bool_ext _ _ (wider_use act v u (λ t. t) (λ q. absurd (e q))) (λ t. wider_mk act v u (either_left _ _ t)) in
      rw (a, ne_eqb u v e)
]
