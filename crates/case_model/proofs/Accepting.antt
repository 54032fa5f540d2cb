-- A valid case is written as an accepted file.
-- The pairs that `packed` writes are chained, by induction over the sections left; rows 2 to 7 look at the case, and reading gives it back.
use Prim.Native.Nat.{ℕ, zero, suc, ◌+◌, ◌*◌, ◌-◌, ◌%◌, ◌≤◌, ◌<◌}
use mathlib.Core.Bool.{true, not}
use mathlib.Core.List.{List, [], ◌∷◌}
use mathlib.Core.Path.{◌≡◌, refl, sym, ap, ◌∙◌, subst}
use native.Mathlib.Nat.{not-suc-le-zero, le_of_suc-le-suc}
use native.Mathlib.Omega.{arith}
use borrow.Author.Tests.{eq-eqb, le-leb, lt-ltb}
use lib.ListN.{length, get_or, take, length-append}
use lib.Seq.{take_all}
use Rattle.flc.specs.Sets.{for_all}
use Rattle.case_model.specs.Bytes.{offset, size, end, padding, chained, pairs_hold, joined, packed}
use Rattle.case_model.specs.Case.{Case, parts, write}
use Rattle.case_model.specs.Rows.{sound, ◌or_else◌, row1, row2, row3, row4, row5, row6, row7, step_wrong, start_wrong, node_wrong, binder_wrong, refusals}
use Rattle.case_model.specs.Limits.{Limits, sections, most_padding, most_nodes, most_states, standard}
use Rattle.case_model.proofs.Sections.{sound_lowest, wrong-none}
use Rattle.case_model.proofs.Codec.{start, packed-offset, packed-size, length-packed, length-write, size_steps, size-rule, read-write}
use Rattle.case_model.specs.Valid.{Valid}
use Rattle.case_model.proofs.Steps.{steps_few}
use Rattle.case_model.proofs.Starts.{starts_few}

-- ---- row 1
-- of a packed file, a section begins where the one before ends
start_next : (l : List (List ℕ)) (from k : ℕ) → k < length l → start from l k + length (get_or l k []) ≡ start from l (suc k)
start_next [] from k h = absurd (not-suc-le-zero h)
start_next (s ∷ l) from zero h = omega (arith, length-append s [])
start_next (s ∷ l) from (suc k) h =
    omega (arith, start_next l from k (le_of_suc-le-suc h), length-append s (joined (take k l)), length-append s (joined (take (suc k) l)))

-- a gap of no bytes is padding
padding-none : (f : List ℕ) (at : ℕ) → padding f at at ≡ true
unfolding padding for_all
padding-none f at = let z : at - at ≡ 0 = omega arith in rw (le-leb at at (omega arith), z)

-- of a packed file, a section ends where the next begins
packed-end : (l : List (List ℕ)) (k : ℕ) → k < length l → end (packed l) k ≡ start (4 * length l) l (suc k)
packed-end l k h = omega (arith, packed-offset l k h, packed-size l k h, start_next l (4 * length l) k h)

-- section k and n more
packed-chained : (l : List (List ℕ)) (n k : ℕ) → suc (k + n) ≡ length l → chained (packed l) k n ≡ true
unfolding chained
packed-chained l zero k e =
    eq-eqb _ _ (packed-end l k (omega arith) ∙ ap (λ z. 4 * length l + length (joined z)) (take_all (suc k) l (omega arith)) ∙ sym (length-packed l))
packed-chained l (suc n) k e =
    rw (packed-end l k (omega arith), packed-offset l (suc k) (omega arith), padding-none (packed l) (start (4 * length l) l (suc k)))
    (packed-chained l n (suc k) (omega arith))

-- a packed file, if it is not too long
pub packed-holds : (most : Limits) (l : List (List ℕ)) → length l ≡ sections → length (packed l) ≤ most.longest → pairs_hold most (packed l) ≡ true
unfolding pairs_hold
packed-holds most l e few =
    let first : offset (packed l) 0 ≡ 4 * sections = omega (arith, packed-offset l 0 (omega arith)) in
    rw (le-leb (4 * sections) (length (packed l)) (omega (arith, length-packed l)), le-leb (length (packed l)) most.longest few, eq-eqb _ _ first)
    (packed-chained l (sections - 1) 0 (sym e))

module _ (c : Case) (valid : Valid standard c) where
  -- at most 16 + 16 + 3 · 2048 + 193 + 16 bytes, which leaves room for padding
  pub write_short : length (write c) + (sections - 1) * most_padding ≤ standard.longest
  write_short = omega (arith, length-write c, steps_few valid.table, starts_few valid, valid.table.few, valid.rule.most)

  pub write-holds : pairs_hold standard (write c) ≡ true
  unfolding write
  write-holds = packed-holds standard (parts c) refl (omega (arith, write_short))

  pub valid_accepted : refusals standard (write c) ≡ sound
  unfolding refusals
  valid_accepted =
      let f : List ℕ = write c in
      subst (λ (d : Case). row1 standard f or_else row2 standard d or_else row3 f d or_else row4 f d or_else row5 d or_else row6 d or_else row7 d ≡ sound)
      (sym (read-write c))
      (rw (
        write-holds,
        le-leb 1 (length c.labels) valid.table.some,
        le-leb (length c.labels) most_states valid.table.few,
        eq-eqb (size (write c) 1 % 3) 0 (omega (arith, size_steps c)),
        sound_lowest 3 (step_wrong c) (length c.steps) valid.table.steps,
        eq-eqb (size (write c) 2 % 3) 1 (omega (arith, size-rule c)),
        le-leb 1 (length c.nodes) (omega (arith, valid.rule.root)),
        le-leb (length c.nodes) most_nodes valid.rule.most,
        lt-ltb c.root (length c.nodes) valid.rule.root,
        wrong-none (start_wrong c) (length c.starts) valid.starts,
        sound_lowest 5 (node_wrong c) (length c.nodes) (λ j h. ap not (valid.rule.kinds j h)),
        sound_lowest 6 (binder_wrong c) (length c.nodes) valid.rule.binders,
        valid.rule.closed,
      ))
