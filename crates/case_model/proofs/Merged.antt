-- The case that merging r into k makes: its states, labels and steps, that it is valid again, and what it keeps where the two states are alike.
-- A state is related to each state of the new case that stays alike to it: that is a bisimulation between the reducts of the two tables.
use Prim.Native.Nat.{ℕ, suc, ◌+◌, ◌-◌, ◌^◌, ◌≤◌, ◌<◌}
use mathlib.Core.Bool.{Bool, false}
use mathlib.Core.List.{List, ◌++◌}
use mathlib.Core.Logic.{◌↔◌}
use mathlib.Core.Path.{◌≡◌, refl, sym, ap, ◌∙◌, subst}
use native.Mathlib.Decide.{dec_lt, ℕ_discrete}
use native.Mathlib.Nat.{zero-div}
use native.Mathlib.Omega.{arith}
use lib.Bits.{bit_and}
use lib.Dec.{T}
use lib.ListN.{length, get_or, take, drop, length-append, length-drop, get_or-append}
use lib.Seq.{get_or-append-add, get_or-take, get_or-drop, length-take-le}
use Rattle.flc.specs.Sets.{has, set_of}
use Rattle.flc.specs.Formula.{Table, mean, none}
use Rattle.flc.specs.Vocabulary.{Vocabulary, Included, reduct}
use Rattle.flc.specs.Bisimulation.{alike}
use Rattle.flc.specs.Likeness.{UnionOfClasses, Likeness}
use Rattle.flc.proofs.Tests.{both_left, both_right, both_mk}
use Rattle.flc.proofs.Masks.{has-set_of, set_of_lt, set_of_ext}
use Rattle.flc.proofs.Meanings.{none_good}
use Rattle.flc.proofs.Invariance.{Matched, Bisim, mean-kept}
use Rattle.flc.proofs.Vocabularies.{mean-reduct}
use Rattle.flc.proofs.Bisimilarity.{Acts, Holds}
use Rattle.flc.proofs.Likeness.{alike_bisim, likeness}
use Rattle.case_model.specs.Limits.{standard}
use Rattle.case_model.specs.Case.{Case, write, listed, table, node_at, rule}
use Rattle.case_model.specs.Rows.{sound, step_wrong, root_closed, refusals}
use Rattle.case_model.specs.Looking.{looked}
use Rattle.case_model.specs.Merging.{moved, moved_steps, merge}
use Rattle.case_model.specs.Run.{all_states}
use Rattle.case_model.specs.Valid.{ValidTable, Valid}
use Rattle.case_model.proofs.Steps.{InRange, listed_in}
use Rattle.case_model.proofs.Accepting.{valid_accepted}
use Rattle.case_model.proofs.StepOrder.{in_order_next, listed-in_order, in_order_in, steps_right}
use Rattle.case_model.proofs.MovedStates.{stays, stays_low, stays_high, stays_lt, lt_stays, stays_moved}
use Rattle.case_model.proofs.MovedStates.{moved_at, moved_lt, moved_steps_use, moved_steps_mk}
use Rattle.case_model.proofs.MergedStarts.{new_starts_right}

-- the states of the new case that stay from the set x
unfoldable pub carried : Case → ℕ → ℕ → ℕ
carried c r x = set_of (length c.labels - 1) (λ u. has x (stays r u))

-- the table of a valid case has steps of actions 0 to 7 only
valid_acts : {most : ℕ} {c : Case} → ValidTable most c → Acts (table c)
unfolding table
valid_acts valid s a t h = (listed_in valid s a t h).action

-- what is known of its alike states
pub valid_likeness : {c : Case} → Valid standard c → Likeness (looked c) (table c)
valid_likeness {c} valid = likeness (looked c) (table c) (valid_acts valid.table)

-- no state is in the empty set
none_in : (s t : ℕ) → has 0 s ≡ has 0 t
unfolding has
none_in s t = rw (zero-div (2 ^ s), zero-div (2 ^ t))

module _ {c : Case} (valid : Valid standard c) (k r : ℕ) (kr : k < r) (rn : r < length c.labels) where
  -- ---- the table: one state fewer, its label, its steps
  merge-states : length (merge c k r).labels ≡ length c.labels - 1
  unfolding merge
  merge-states = simp (length-append, length-take-le r c.labels (omega arith), length-drop) (omega arith)

  pub merge_label : (u : ℕ) → (table (merge c k r)).label u ≡ (table c).label (stays r u)
  unfolding table merge
  merge_label u =
      let a : List ℕ = take r c.labels in
      let b : List ℕ = drop (suc r) c.labels in
      let front : length a ≡ r = length-take-le r c.labels (omega arith) in
      elim (dec_lt u r) [
        | yes h ↦ rw (stays_low r u h, get_or-append a b 0 u (rw front h), get_or-take r c.labels u 0 h)
        | no h ↦
            let e : u ≡ length a + (u - r) = omega arith in
            let q : suc r + (u - r) ≡ suc u = omega arith in
            rw (stays_high r u (omega arith)) (ap (λ z. get_or (a ++ b) z 0) e ∙ rw (get_or-append-add, get_or-drop, q))
      ]

  -- the steps, before they are put in order
  abbrev step : ℕ → ℕ → ℕ → Bool
  step = listed (moved_steps k r c.steps)

  -- they are in range, so putting them in order keeps them
  step_in : (u a w : ℕ) → T (step u a w) → InRange (length c.labels - 1) (u, a, w)
  step_in u a w h =
      let (t, m, v) = moved_steps_use k r c.steps u a w h in
      let i = listed_in valid.table (stays r u) a t v in
      record { from = lt_stays r u _ rn i.from; action = i.action; to = rw (← m) (moved_lt k r _ t kr rn i.to) }

  merge-listed : (u a w : ℕ) → (table (merge c k r)).step u a w ≡ step u a w
  unfolding table merge
  merge-listed = listed-in_order step (length c.labels - 1) (omega (arith, valid.table.few)) step_in

  pub merge_step : (u a w : ℕ) → T ((table (merge c k r)).step u a w) ↔ ((t : ℕ) × (moved k r t ≡ w) × T ((table c).step (stays r u) a t))
  unfolding table
  merge_step u a w = rw (merge-listed u a w)
      (moved_steps_use k r c.steps u a w, λ (t, m, h). rw (← m) (moved_steps_mk k r c.steps u a t h))

  -- ---- the new case is valid
  -- with the same rule
  merge-rule : rule (merge c k r) ≡ rule c
  unfolding merge rule node_at
  merge-rule = refl

  pub merge_few : length (merge c k r).labels ≤ 16
  merge_few = rw merge-states (omega (arith, valid.table.few))

  -- row 3
  merge_steps : (i : ℕ) → i < length (merge c k r).steps → step_wrong (merge c k r) i ≡ false
  merge_steps =
      steps_right (merge c k r) merge_few
      (rw merge-states (unfold merge in in_order_in step (length c.labels - 1) (omega (arith, valid.table.few)) step_in))
      (unfold merge in in_order_next step)

  -- a state of the old case goes to one of the new
  pub moved_in : (s : ℕ) → s < length c.labels → moved k r s < length (merge c k r).labels
  moved_in s i = rw merge-states (moved_lt k r _ s kr rn i)

  pub merge_valid : Valid standard (merge c k r)
  merge_valid = record {
    rule = record {
      most = unfold merge in valid.rule.most;
      root = unfold merge in valid.rule.root;
      kinds = unfold merge in valid.rule.kinds;
      binders = unfold merge node_at in valid.rule.binders;
      closed = unfold root_closed in rw merge-rule valid.rule.closed;
    };
    table = record { some = rw merge-states (omega arith); few = merge_few; steps = merge_steps };
    starts = new_starts_right valid k r merge_few moved_in;
  }

  -- so it is written as an accepted file
  pub merge_accepted : refusals standard (write (merge c k r)) ≡ sound
  merge_accepted = valid_accepted (merge c k r) merge_valid

  -- ---- alike states
  abbrev W : Vocabulary
  W = looked c

  module _ (kr-alike : T (alike W (table c) k r)) where
    stays_in : (u : ℕ) → u < length (merge c k r).labels → stays r u < length c.labels
    stays_in u j = stays_lt r u _ rn (rw merge-states at j)

    -- a state, and one of the new case that stays alike to it
    abbrev Stands : ℕ → ℕ → Type 0
    Stands s u = T (alike W (table c) s (stays r u))

    -- what is alike to a state is alike to the state that stands for it
    stood : (s t : ℕ) → s < length c.labels → t < length c.labels → T (alike W (table c) s t) → Stands s (moved k r t)
    unfolding table
    stood s t i j a = elim (ℕ_discrete t r) [
      | yes e ↦ rw (e, moved_at k r, stays_low r k kr)
          ((valid_likeness valid).transitive s r k i rn (omega arith) (rw e at a)
          ((valid_likeness valid).symmetric k r (omega arith) rn kr-alike))
      | no n ↦ rw (stays_moved k r t n) a
    ]

    stood_self : (s : ℕ) → s < length c.labels → Stands s (moved k r s)
    unfolding table
    stood_self s i = stood s s i i ((valid_likeness valid).reflexive s i)

    -- what the rule looks at, of the case and of the new one
    abbrev L : Table
    L = reduct W (table c)

    abbrev M : Table
    M = reduct W (table (merge c k r))

    stands_bisim : Bisim L M Stands
    unfolding table reduct
    stands_bisim s u i j h =
        let P : Matched L L (Holds (alike W (table c))) s (stays r u) =
        alike_bisim W (table c) (valid_acts valid.table) s (stays r u) i (stays_in u j) h in
        record {
          labels = P.labels ∙ ap (λ x. bit_and x W.props) (sym (merge_label u));
          forth = λ a s' i' e.
              let (t, l, v, w) = P.forth a s' i' e in
              (moved k r t, moved_in t l, both_mk _ _ (both_left _ _ v) ((merge_step u a (moved k r t)).1 (t, refl, both_right _ _ v)), stood s' t i' l w);
          back = λ a w j' e.
              let (t, m, v) = (merge_step u a w).0 (both_right _ _ e) in
              let l : t < length c.labels = (listed_in valid.table (stays r u) a t v).to in
              let (s', i', x, y) = P.back a t l (both_mk _ _ (both_left _ _ e) v) in
              (s', i', x, subst (Stands s') m (stood s' t i' l y));
        }

    -- the carried set has the state that stands for s just if the set has s
    module _ (x : ℕ) (whole : UnionOfClasses W (table c) x) where
      carried_stands : (s u : ℕ) → s < length c.labels → u < length (merge c k r).labels → Stands s u → has x s ≡ has (carried c r x) u
      unfolding carried table
      carried_stands s u i j h =
          whole s (stays r u) i (stays_in u j) h ∙ sym (has-set_of (length c.labels - 1) _ u (rw merge-states at j))

      pub carried-has : (s : ℕ) → s < length c.labels → has (carried c r x) (moved k r s) ≡ has x s
      carried-has s i = sym (carried_stands s (moved k r s) i (moved_in s i) (stood_self s i))

      -- and the new rule's answer at it has the state that stands for s just if the old one at the set has s
      pub merge-kept : x < 2 ^ length c.labels → (s : ℕ) → s < length c.labels
          → has (mean (table c) (rule c) none x) s ≡ has (mean (table (merge c k r)) (rule (merge c k r)) none (carried c r x)) (moved k r s)
      unfolding table carried reduct looked
      merge-kept small s i = rw (merge-rule, ← mean-reduct W (table c) (rule c) all none, ← mean-reduct W (table (merge c k r)) (rule c) all none)
          (mean-kept L M Stands stands_bisim (rule c) none none (none_good L.n) (none_good M.n)
          (λ v x y i j c s t k l z. unfold none in none_in s t)
          x (carried c r x) small (rw merge-states (set_of_lt (length c.labels - 1) _)) carried_stands
          s (moved k r s) i (moved_in s i) (stood_self s i))
        where
          all : Included W W
          all = record { props = λ i u. u; acts = λ a u. u }

    -- the set of all states is such a union, and is carried to the set of all states
    pub carried_all : carried c r (all_states c) ≡ all_states (merge c k r)
    unfolding carried
    carried_all = rw merge-states (set_of_ext (length c.labels - 1) _ _ (λ u j. has-set_of (length c.labels) _ (stays r u) (stays_lt r u _ rn j)))

    pub merge-holds : (s : ℕ) → s < length c.labels
        → has (mean (table c) (rule c) none (all_states c)) s
        ≡ has (mean (table (merge c k r)) (rule (merge c k r)) none (all_states (merge c k r))) (moved k r s)
    unfolding table
    merge-holds s i =
        merge-kept (all_states c) (λ s t i j a. has-set_of (length c.labels) _ s i ∙ sym (has-set_of (length c.labels) _ t j))
        (set_of_lt (length c.labels) _) s i
        ∙ ap (λ x. has (mean (table (merge c k r)) (rule (merge c k r)) none x) (moved k r s)) carried_all
