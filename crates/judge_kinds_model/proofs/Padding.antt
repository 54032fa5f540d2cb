-- Padding is left aside by every table: of two files that differ in padding alone, the exchanged files do too.
-- Whether a byte of the rule section is exchanged goes by its place in the section, wherever that lies.
use Prim.Native.Nat.{ℕ, ◌*◌, ◌/◌, ◌%◌, ◌<◌}
use mathlib.Core.Bool.{Bool, true, false}
use mathlib.Core.List.{List}
use mathlib.Core.Path.{◌≡◌, refl, sym, ap, ◌∙◌}
use native.Mathlib.Decide.{dec_lt, ℕ_discrete}
use native.Mathlib.Omega.{arith}
use lib.ListN.{length}
use lib.Seq.{ext_get_or}
use Rattle.case_model.specs.Bytes.{byte_at, size, section}
use Rattle.case_model.specs.Judging.{judging}
use Rattle.case_model.specs.Limits.{standard}
use Rattle.case_model.specs.Padding.{PaddingAside}
use Rattle.case_model.proofs.Padding as aside
use Rattle.case_model.proofs.Sections.{section-length}
use Rattle.judge_kinds_model.specs.KindTables.{is_table, stands_for}
use Rattle.judge_kinds_model.specs.Exchange.{exchanged}
use Rattle.judge_kinds_model.specs.Judging.{judging_kinds, SameByTable}
use Rattle.judge_kinds_model.proofs.SameLayout.{sizes, kind_at, other_at, section_before, section_behind, same_layout}
use Rattle.judge_kinds_model.proofs.Judging.{by_table, other_table}

module _ {f g : List ℕ} (t : List ℕ) (p : PaddingAside standard f g) where
  same_size : size f 2 ≡ size g 2
  same_size = aside.sizes p 2 (omega arith)

  same_byte : (i : ℕ) → byte_at (section f 2) i ≡ byte_at (section g 2) i
  same_byte i = ap (λ s. byte_at s i) (p.same 2 (omega arith))

  -- a byte of the rule: a kind, or any other
  rule_same : (i : ℕ) → i < size f 2 → byte_at (section (exchanged t f) 2) i ≡ byte_at (section (exchanged t g) 2) i
  rule_same i h = elim (ℕ_discrete (i % 3) 0) [
    | no z ↦ stays (λ j k q. z (omega arith))
    | yes z ↦ elim (dec_lt (i / 3) (size f 2 / 3)) [
      | no l ↦ stays (λ j k q. l (omega arith))
      | yes l ↦
          let at : i ≡ 3 * (i / 3) = omega arith in
          kind_at t f p.one i (i / 3) l at ∙ ap (stands_for t) (same_byte i)
          ∙ sym (kind_at t g p.other i (i / 3) (omega (arith, same_size)) at)
    ]
  ]
    where
      stays : ((j : ℕ) → j < size f 2 / 3 → i ≡ 3 * j → ⊥) → byte_at (section (exchanged t f) 2) i ≡ byte_at (section (exchanged t g) 2) i
      stays none =
          other_at t f p.one i h none ∙ same_byte i
          ∙ sym (other_at t g p.other i (omega (arith, same_size)) (λ j k q. none j (omega (arith, same_size)) q))

  exchanged_aside : PaddingAside standard (exchanged t f) (exchanged t g)
  exchanged_aside = record {
    one = (same_layout t f p.one).pairs;
    other = (same_layout t g p.other).pairs;
    same = λ k h. elim (dec_lt k 2) [
      | yes l ↦ section_before t f p.one k l ∙ p.same k h ∙ sym (section_before t g p.other k l)
      | no l ↦ elim (ℕ_discrete k 2) [
        | yes e ↦ rw e rule
        | no e ↦ let three : k ≡ 3 = omega arith in rw three (section_behind t f p.one ∙ p.same 3 (omega arith) ∙ sym (section_behind t g p.other))
      ]
    ];
  }
    where
      long : length (section (exchanged t f) 2) ≡ size f 2
      long = section-length (exchanged t f) 2 ∙ sizes t f p.one 2 (omega arith)

      rule : section (exchanged t f) 2 ≡ section (exchanged t g) 2
      rule =
          ext_get_or 0 _ _ (long ∙ same_size ∙ sym (section-length (exchanged t g) 2 ∙ sizes t g p.other 2 (omega arith)))
          (λ i h. rule_same i (omega (arith, long)))

-- clause 1.17
pub kinds_aside : {f g : List ℕ} → PaddingAside standard f g → SameByTable f g
unfolding judging
kinds_aside {f} {g} p t x words = go (is_table t) refl
  where
    go : (b : Bool) → is_table t ≡ b → judging_kinds t f x words ≡ judging_kinds t g x words
    go true e = by_table t f x words e ∙ (aside.padding_aside (exchanged_aside t p)).replies _ _ ∙ sym (by_table t g x words e)
    go false e = other_table t f x words e ∙ sym (other_table t g x words e)
