-- The sets of the states that have each proposition, with one state more.
use Prim.Native.Nat.{ℕ, ◌+◌, ◌*◌, ◌%◌, ◌^◌, ◌≤◌, ◌<◌}
use mathlib.Core.Bool.{Bool, true, false, or_comm}
use mathlib.Core.List.{List}
use mathlib.Core.Path.{◌≡◌, sym, ap, ap₂, ◌∙◌}
use native.Mathlib.Decide.{dec_lt, ℕ_discrete}
use native.Mathlib.Nat.{one-mul, mod-eq_of_lt}
use native.Mathlib.Omega.{arith}
use borrow.Author.Tests.{eq-eqb, ne_eqb}
use lib.Bits.{bit_or}
use lib.ListN.{length, get_or, set, length-set}
use lib.Pow.{pow-lt}
use lib.Seq.{get_or-set_same, get_or-set_other}
use Rattle.flc.specs.Sets.{either, has, set_of}
use Rattle.flc.proofs.Masks.{has-set_of, has_beyond, has_or, has-single, set_of_lt, set_same}
use Rattle.case_model.specs.Limits.{most_states, propositions}
use Rattle.case_model.specs.Case.{Case}
use Rattle.case_plan.specs.Parts.{labelled}

-- ---- one set
module _ (q : ℕ → Bool) (n : ℕ) where
  others : (t : ℕ) → (t ≡ n → q n ≡ false) → has (set_of n q) t ≡ has (set_of (n + 1) q) t
  others t z = elim (dec_lt t n) [
    | yes l ↦ has-set_of n q t l ∙ sym (has-set_of (n + 1) q t (omega arith))
    | no l ↦ has_beyond n _ t (set_of_lt n q) (omega arith) ∙ sym (elim (ℕ_discrete t n) [
      | yes s ↦ has-set_of (n + 1) q t (omega arith) ∙ ap q s ∙ z s
      | no s ↦ has_beyond (n + 1) _ t (set_of_lt (n + 1) q) (omega arith)
    ])
  ]

  set_out : q n ≡ false → set_of n q ≡ set_of (n + 1) q
  set_out e = set_same _ _ (λ t. others t (λ _. e))

  set_in : q n ≡ true → bit_or (set_of n q) (2 ^ n) ≡ set_of (n + 1) q
  unfolding either
  set_in e = set_same _ _ (λ t.
      has_or (set_of n q) (2 ^ n) t ∙ ap (either (has (set_of n q) t)) (has-single n t) ∙ elim (ℕ_discrete t n) [
        | yes s ↦
            ap₂ either (has_beyond n _ t (set_of_lt n q) (omega arith)) (eq-eqb n t (sym s))
            ∙ sym (has-set_of (n + 1) q t (omega arith) ∙ ap q s ∙ e)
        | no s ↦
            ap (either (has (set_of n q) t)) (ne_eqb n t (λ z. s (sym z))) ∙ or_comm _ false
            ∙ others t (λ z. absurd (s z))
      ])

-- ---- the sets of all propositions: the first i have state s, the others do not yet
pub record Joining (c : Case) (s i : ℕ) (sets : List ℕ) : Type 0 where
  pub long : length sets ≡ propositions
  pub done : (k : ℕ) → k < i → get_or sets k 0 ≡ labelled c (s + 1) k
  pub left : (k : ℕ) → i ≤ k → k < propositions → get_or sets k 0 ≡ labelled c s k

module _ {c : Case} {s i l : ℕ} {sets : List ℕ} (J : Joining c s i sets) (room : i < propositions) (e : l ≡ get_or c.labels s 0) where
  pub joined_out : has l i ≡ false → Joining c s (i + 1) sets
  joined_out h = record {
    long = J.long;
    done = λ k u. elim (ℕ_discrete k i) [
      | yes z ↦ rw z (J.left i (omega arith) room ∙ set_out (λ s. has (get_or c.labels s 0) i) s (ap (λ l. has l i) (sym e) ∙ h))
      | no z ↦ J.done k (omega arith)
    ];
    left = λ k u v. J.left k (omega arith) v;
  }

  pub joined_in : s < most_states → has l i ≡ true
      → Joining c s (i + 1) (set sets i (bit_or (get_or sets i 0) ((1 * 2 ^ s) % 2 ^ 16)))
  joined_in few h =
      let power : (1 * 2 ^ s) % 2 ^ 16 ≡ 2 ^ s = rw one-mul (mod-eq_of_lt (pow-lt {i = s} {j = 16} (omega arith))) in
      let y : ℕ = bit_or (get_or sets i 0) ((1 * 2 ^ s) % 2 ^ 16) in
      let is : y ≡ labelled c (s + 1) i =
      ap₂ bit_or (J.left i (omega arith) room) power ∙ set_in (λ s. has (get_or c.labels s 0) i) s (ap (λ l. has l i) (sym e) ∙ h) in
      record {
        long = length-set sets i y ∙ J.long;
        done = λ k u. elim (ℕ_discrete k i) [
          | yes z ↦ rw z (get_or-set_same sets i y 0 (omega (arith, J.long)) ∙ is)
          | no z ↦ get_or-set_other sets i k y 0 z ∙ J.done k (omega arith)
        ];
        left = λ k u v. get_or-set_other sets i k y 0 (λ q. omega arith) ∙ J.left k (omega arith) v;
      }
