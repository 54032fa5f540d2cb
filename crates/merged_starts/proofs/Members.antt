-- The states of a set, one turn after the other, and the set that start states are gathered in.
-- A turn adds what its state adds; a state is gathered by the bit that it has alone.
use mathlib.Core.Bool.{Bool, true, false, or_comm, or_assoc}
use mathlib.Core.List.{List, [], ◌∷◌, ◌++◌, map, map-append}
use mathlib.Core.Path.{◌≡◌, sym, ap, ap₂, ◌∙◌}
use Prim.Native.Nat.{ℕ, ◌+◌, ◌*◌, ◌%◌, ◌^◌, ◌≤◌, ◌<◌}
use native.Mathlib.Nat.{one-mul, mod-eq_of_lt}
use native.Mathlib.Numerals.{add-one}
use native.Mathlib.Omega.{arith}
use lib.Bits.{bit_or}
use lib.Dec.{eqb}
use lib.ListN.{length, take}
use lib.Pow.{pow-lt}
use lib.Seq.{take-suc}
use Rattle.flc.specs.Sets.{either, has, set_of}
use Rattle.flc.proofs.Masks.{has-set_of, has-single, set_of_lt, set_of_ext, set_of-none, or_set_of}
use Rattle.case_model.specs.Bytes.{byte_at}
use Rattle.case_model.specs.Limits.{most_states}
use Rattle.case_model.specs.Case.{Case}
use Rattle.case_model.specs.Merging.{chosen, selected, is_in, merge}
use Rattle.case_model.proofs.Selected.{selected_ext, selected_more, selected_few, selected_room}
use Rattle.case_writer.specs.Writing.{Writes}
use Rattle.case_writer.specs.declared.output.Output.{Output}
use Rattle.case_writer.proofs.Runs.{writes_none, writes_after}
use Rattle.merged_starts.specs.StartSets.{start_set, members}
use Rattle.merged_steps.specs.declared.rows.Pair.{Pair}

-- the states of the set are the start states of the merged case
pub members_merged : (c : Case) (p : Pair) → members (start_set c p) ≡ (merge c p.kept p.removed).starts
unfolding members start_set merge
members_merged c p = selected_ext most_states _ _ (λ s. s) (λ s h. has-set_of most_states _ s h)

-- ---- gathering
is_in_behind : (l : List ℕ) (x s : ℕ) → is_in (l ++ (x ∷ [])) s ≡ either (is_in l s) (eqb x s)
unfolding is_in either
is_in_behind [] x s = or_comm (eqb x s) false
is_in_behind (y ∷ l) x s = ap (either (eqb y s)) (is_in_behind l x s) ∙ sym (or_assoc (eqb y s) (is_in l s) (eqb x s))

module _ (g : ℕ → ℕ) (l : List ℕ) where
  -- what is gathered from the places below i
  abbrev pub gathered : ℕ → ℕ
  gathered i = set_of most_states (is_in (map g (take i l)))

  pub none_gathered : 0 ≡ gathered 0
  unfolding is_in
  none_gathered = sym (set_of-none most_states)

  -- one turn, at place i
  pub gathered_more : (i set x : ℕ) → i < length l → set ≡ gathered i → x ≡ g (byte_at l i) → x < most_states
      → bit_or set (1 * 2 ^ x % 65536) ≡ gathered (i + 1)
  gathered_more i set x inside e q small =
      let b : 1 * 2 ^ x % 65536 ≡ 2 ^ x = rw one-mul (mod-eq_of_lt (pow-lt {i = x} {j = 16} small)) in
      let next : map g (take (i + 1) l) ≡ map g (take i l) ++ (x ∷ []) =
      rw (add-one i, take-suc l i 0 inside, map-append, q) in
      ap (bit_or set) b
      ∙ or_set_of most_states set (2 ^ x) (rw e (set_of_lt most_states _)) (pow-lt {i = x} {j = 16} small)
      ∙ set_of_ext most_states _ _ (λ s h.
      ap₂ either (ap (λ y. has y s) e ∙ has-set_of most_states (is_in (map g (take i l))) s h) (has-single x s)
      ∙ sym (ap (λ m. is_in m s) next ∙ is_in_behind (map g (take i l)) x s))

-- the states of a set below s
abbrev pub below : ℕ → ℕ → List ℕ
below x s = selected s (has x) (λ s. s)

pub members_few : (x : ℕ) → length (members x) ≤ most_states
unfolding members
members_few x = selected_few (has x) (λ s. s) most_states

-- ---- one turn of writing, for which there is room
module _ (x s : ℕ) {o p : Output} (w : Writes o p (below x s)) where
  turn : (b : Bool) {q : Output} → has x s ≡ b → Writes p q (chosen b s) → Writes o q (below x (s + 1))
  turn b e v = rw (selected_more (has x) (λ s. s) s, e) (writes_after w v)

  pub state_written : {q : Output} → has x s ≡ true → Writes p q (s ∷ []) → Writes o q (below x (s + 1))
  state_written e v = turn true e v

  pub none_written : has x s ≡ false → Writes o p (below x (s + 1))
  none_written e = turn false e (writes_none p)

  pub turn_room : s < most_states → o.at + length (members x) ≤ length o.area.now → has x s ≡ true → p.at + 1 ≤ length p.area.now
  unfolding members
  turn_room h room e =
      let n : length (chosen (has x s) s) ≡ 1 = ap (λ b. length (chosen b s)) e in
      omega (arith, w.laid.ends, w.laid.long, selected_room (has x) (λ s. s) s most_states h)
