-- A rule means the same in the reduct of a table as in the table, if it looks no further than the reduct's vocabulary.
-- By induction on the rule: what it looks at is there, and binders quantify over the same functions.
use mathlib.Core.Path.{◌≡◌, refl, ◌∙◌}
use mathlib.Core.Bool.{Bool, true, false, not}
use Prim.Native.Nat.{ℕ}
use lib.Bits.{bit_and}
use lib.Dec.{T, eqb_refl}
use Rattle.flc.specs.Sets.{both, either, for_some, among, has, set_of}
use Rattle.flc.specs.Functions.{meet, join}
use Rattle.flc.specs.Formula.{Table, Atom, top, bottom, tau, prop, nprop, modal, Op, or, and, chop, Formula, atom, var, op, fix, Env, put}
use Rattle.flc.specs.Formula.{actions, steps_by, mean_atom, mean}
use Rattle.flc.specs.Vocabulary.{Vocabulary, vocabulary, Included, reduct}
use Rattle.flc.proofs.Tests.{either_left, either_right}
use Rattle.flc.proofs.Masks.{has_or, has_and, has-single}

-- ---- inclusion
-- what an operator looks at, either of its rules may look at
module _ {W : Vocabulary} (o : Op) (p q : Formula) (h : Included (vocabulary (op o p q)) W) where
  included_left : Included (vocabulary p) W
  unfolding vocabulary
  included_left = record {
    props = λ i u. h.props i (rw (has_or (vocabulary p).props (vocabulary q).props i) (either_left _ _ u));
    acts = λ a u. h.acts a (rw (has_or (vocabulary p).acts (vocabulary q).acts a) (either_left _ _ u));
  }

  included_right : Included (vocabulary q) W
  unfolding vocabulary
  included_right = record {
    props = λ i u. h.props i (rw (has_or (vocabulary p).props (vocabulary q).props i) (either_right _ _ u));
    acts = λ a u. h.acts a (rw (has_or (vocabulary p).acts (vocabulary q).acts a) (either_right _ _ u));
  }

-- ---- atoms
both_true : (b c : Bool) → T c → both b c ≡ b
unfolding both
both_true true true h = refl
both_true true false h = absurd h
both_true false c h = refl

both_within : (g v e : Bool) → (T g → T v) → both g (both v e) ≡ both g e
unfolding both
both_within true true e h = refl
both_within true false e h = absurd (h tt)
both_within false v e h = refl

module _ (W : Vocabulary) (L : Table) where
  -- a proposition that is looked at
  label_seen : (s i : ℕ) → T (has W.props i) → has (bit_and (L.label s) W.props) i ≡ has (L.label s) i
  label_seen s i h = has_and (L.label s) W.props i ∙ both_true _ _ h

  -- a group that is looked at
  steps_seen : (g : ℕ) → ((a : ℕ) → T (has g a) → T (has W.acts a)) → (s : ℕ) → steps_by (reduct W L) g s ≡ steps_by L g s
  unfolding steps_by reduct
  steps_seen g h s = λ z t. for_some actions (λ a. both_within (has g a) (has W.acts a) (L.step s a t) (h a) z)

  atom_reduct : (a : Atom) → Included (vocabulary (atom a)) W → mean_atom (reduct W L) a ≡ mean_atom L a
  unfolding mean_atom vocabulary reduct
  atom_reduct top h = refl
  atom_reduct bottom h = refl
  atom_reduct tau h = refl
  atom_reduct (prop i) h = λ z x. set_of L.n (λ s. label_seen s i (h.props i (rw (has-single i i) (eqb_refl i))) z)
  atom_reduct (nprop i) h = λ z x. set_of L.n (λ s. not (label_seen s i (h.props i (rw (has-single i i) (eqb_refl i))) z))
  atom_reduct (modal d g) h = λ z x. set_of L.n (λ s. among d L.n (steps_seen g h.acts s z) (has x))

  -- ---- all rules
  pub mean-reduct : (p : Formula) → Included (vocabulary p) W → (ρ : Env) → mean (reduct W L) p ρ ≡ mean L p ρ
  unfolding mean reduct
  mean-reduct (atom a) h ρ = atom_reduct a h
  mean-reduct (var v) h ρ = refl
  mean-reduct (op or p q) h ρ = λ z x.
      set_of L.n (λ s. either (has (mean-reduct p (included_left or p q h) ρ z x) s) (has (mean-reduct q (included_right or p q h) ρ z x) s))
  mean-reduct (op and p q) h ρ = λ z x.
      set_of L.n (λ s. both (has (mean-reduct p (included_left and p q h) ρ z x) s) (has (mean-reduct q (included_right and p q h) ρ z x) s))
  mean-reduct (op chop p q) h ρ = λ z x. mean-reduct p (included_left chop p q h) ρ z (mean-reduct q (included_right chop p q h) ρ z x)
  mean-reduct (fix true v p) h ρ = λ z. meet L.n (λ f. mean-reduct p (unfold vocabulary in h) (put ρ v f) z)
  mean-reduct (fix false v p) h ρ = λ z. join L.n (λ f. mean-reduct p (unfold vocabulary in h) (put ρ v f) z)
