-- Where row 1 does not refuse the file, the exchanged file is the same case but for the kinds of its nodes, and row 1 does not refuse it either.
-- The rule section lies behind the head, behind the sections before it and before the one after it, so each other byte stays.
use Prim.Native.Nat.{ℕ, zero, suc, ◌+◌, ◌*◌, ◌-◌, ◌/◌, ◌≤◌, ◌<◌}
use mathlib.Core.Bool.{Bool, true, false, ◌&&◌}
use mathlib.Core.List.{List, ◌∷◌, map}
use mathlib.Core.Path.{◌≡◌, refl, sym, ap, ap₂, ◌∙◌}
use native.Mathlib.Decide.{dec_lt}
use native.Mathlib.Omega.{arith}
use lib.Dec.{eqb, leb}
use lib.ListN.{length, get_or-eq_default}
use Rattle.flc.specs.Sets.{both, for_all}
use Rattle.case_model.specs.Bytes.{list_of, byte_at, word_at, offset, size, end, padding, chained, pairs_hold, section}
use Rattle.case_model.specs.Case.{read, triple_at, triples}
use Rattle.case_model.specs.Limits.{sections, standard}
use Rattle.case_model.proofs.Lists.{length-list_of, get_or-list_of, get_or-list_of-end, list_of_ext}
use Rattle.case_model.proofs.Sections.{head_first, section-after, within}
use Rattle.judge_kinds_model.specs.KindTables.{stands_for}
use Rattle.judge_kinds_model.specs.Exchange.{is_kind, exchanged_byte, exchanged, exchanged_node, exchanged_case}
use Rattle.judge_kinds_model.specs.Judging.{SameLayout}
use Rattle.judge_kinds_model.proofs.KindTables.{stands_there, stands_itself}
use Rattle.judge_kinds_model.proofs.Exchange.{kind_byte, other_byte, exchanged_kind, exchanged_other, unlaid, laid}

map-list_of : {A B : Type 0} (h : A → B) (k : ℕ) (g : ℕ → A) → map h (list_of k g) ≡ list_of k (λ i. h (g i))
unfolding list_of
map-list_of h zero g = refl
map-list_of h (suc k) g = ap (λ l. h (g zero) ∷ l) (map-list_of h k (λ i. g (suc i)))

for_all_ext : (n : ℕ) (p q : ℕ → Bool) → ((i : ℕ) → i < n → p i ≡ q i) → for_all n p ≡ for_all n q
unfolding for_all
for_all_ext zero p q e = refl
for_all_ext (suc n) p q e = ap₂ both (for_all_ext n p q (λ i h. e i (omega arith))) (e n (omega arith))

module _ (t f : List ℕ) (e : pairs_hold standard f ≡ true) where
  abbrev g : List ℕ
  g = exchanged t f

  abbrev m : ℕ
  m = size f 2 / 3

  pub long : length g ≡ length f
  long = ap length (laid t f e) ∙ length-list_of (length f) (exchanged_byte t f m)

  behind : 16 ≤ offset f 2
  behind = omega (arith, head_first standard f e, section-after standard f e 0 2 (omega arith) (omega arith))

  inside : end f 2 ≤ length f
  inside = within standard f e 2 (omega arith)

  -- ---- each byte
  pub byte_at_lem : (p : ℕ) → byte_at g p ≡ exchanged_byte t f m p
  byte_at_lem p = elim (dec_lt p (length f)) [
    | yes h ↦ ap (λ l. byte_at l p) (laid t f e) ∙ get_or-list_of (length f) (exchanged_byte t f m) 0 p h
    | no h ↦
        ap (λ l. byte_at l p) (laid t f e) ∙ get_or-list_of-end (length f) (exchanged_byte t f m) 0 p (omega arith)
        ∙ sym (exchanged_other t f m p (other_byte f m p (λ j k q. omega (arith, inside))) ∙ get_or-eq_default f 0 {n = p} (omega arith))
  ]

  other : (p : ℕ) → ((j : ℕ) → j < m → p ≡ offset f 2 + 3 * j → ⊥) → byte_at g p ≡ byte_at f p
  other p none = byte_at_lem p ∙ exchanged_other t f m p (other_byte f m p none)

  early : (p : ℕ) → p < offset f 2 → byte_at g p ≡ byte_at f p
  early p h = other p (λ j k q. omega arith)

  past : (p : ℕ) → offset f 2 + 3 * m ≤ p → byte_at g p ≡ byte_at f p
  past p h = other p (λ j k q. omega arith)

  -- ---- the pairs
  words : (at : ℕ) → at < 15 → word_at g at ≡ word_at f at
  words at h = ap₂ (λ x y. x + 256 * y) (early at (omega (arith, behind))) (early (at + 1) (omega (arith, behind)))

  pub offsets : (k : ℕ) → k < sections → offset g k ≡ offset f k
  offsets k h = words (4 * k) (omega arith)

  pub sizes : (k : ℕ) → k < sections → size g k ≡ size f k
  sizes k h = words (4 * k + 2) (omega arith)

  ends : (k : ℕ) → k < sections → end g k ≡ end f k
  ends k h = ap₂ ◌+◌ (offsets k h) (sizes k h)

  -- ---- the sections
  section_as : (k : ℕ) → k < sections → section g k ≡ list_of (size f k) (λ i. byte_at g (offset f k + i))
  unfolding section
  section_as k h = λ z. list_of (sizes k h z) (λ i. byte_at g (offsets k h z + i))

  pub section_before : (k : ℕ) → k < 2 → section g k ≡ section f k
  unfolding section
  section_before k h =
      section_as k (omega arith)
      ∙ list_of_ext (size f k) _ _ (λ i l. early (offset f k + i) (omega (arith, section-after standard f e k 2 h (omega arith))))

  pub section_behind : section g 3 ≡ section f 3
  unfolding section
  section_behind =
      section_as 3 (omega arith)
      ∙ list_of_ext (size f 3) _ _ (λ i l. past (offset f 3 + i) (omega (arith, section-after standard f e 2 3 (omega arith) (omega arith))))

  -- ---- the rule: a byte of it, in the exchanged file and in the file
  rule_byte : (i : ℕ) → i < size f 2 → byte_at (section g 2) i ≡ byte_at g (offset f 2 + i)
  rule_byte i h = ap (λ l. byte_at l i) (section_as 2 (omega arith)) ∙ get_or-list_of (size f 2) _ 0 i h

  old_byte : (i : ℕ) → i < size f 2 → byte_at (section f 2) i ≡ byte_at f (offset f 2 + i)
  unfolding section
  old_byte i h = get_or-list_of (size f 2) _ 0 i h

  pub kind_at : (i j : ℕ) → j < m → i ≡ 3 * j → byte_at (section g 2) i ≡ stands_for t (byte_at (section f 2) i)
  kind_at i j h q =
      let at : offset f 2 + i ≡ offset f 2 + 3 * j = omega arith in
      rule_byte i (omega arith) ∙ byte_at_lem (offset f 2 + i) ∙ exchanged_kind t f m (offset f 2 + i) (ap (is_kind f m) at ∙ kind_byte f m j h)
      ∙ ap (stands_for t) (sym (old_byte i (omega arith)))

  pub other_at : (i : ℕ) → i < size f 2 → ((j : ℕ) → j < m → i ≡ 3 * j → ⊥) → byte_at (section g 2) i ≡ byte_at (section f 2) i
  other_at i h none = rule_byte i h ∙ other (offset f 2 + i) (λ j k q. none j k (omega arith)) ∙ sym (old_byte i h)

  nodes : triples g 2 ≡ map (exchanged_node t) (triples f 2)
  nodes =
      (λ z. list_of (sizes 2 (omega arith) z / 3) (λ j. triple_at (section g 2) (3 * j)))
      ∙ list_of_ext m _ _ (λ j h.
      let kind = kind_at (3 * j) j h refl in
      let a = other_at (3 * j + 1) (omega arith) (λ i k q. omega arith) in
      let b = other_at (3 * j + 2) (omega arith) (λ i k q. omega arith) in
      λ z. (kind z, a z, b z))
      ∙ sym (map-list_of (exchanged_node t) m (λ j. triple_at (section f 2) (3 * j)))

  -- the root's byte is past the last whole triple; perhaps there is none
  root_byte : (i : ℕ) → i ≡ 3 * m → byte_at (section g 2) i ≡ byte_at (section f 2) i
  unfolding section
  root_byte i q = elim (dec_lt i (size f 2)) [
    | yes h ↦ other_at i h (λ j k e. omega arith)
    | no h ↦
        ap (λ l. byte_at l i) (section_as 2 (omega arith)) ∙ get_or-list_of-end (size f 2) _ 0 i (omega arith)
        ∙ sym (get_or-list_of-end (size f 2) (λ i. byte_at f (offset f 2 + i)) 0 i (omega arith))
  ]

  root : byte_at (section g 2) (3 * (size g 2 / 3)) ≡ byte_at (section f 2) (3 * m)
  root = ap (λ n. byte_at (section g 2) (3 * (n / 3))) (sizes 2 (omega arith)) ∙ root_byte (3 * m) refl

  read-exchanged : read g ≡ exchanged_case t (read f)
  read-exchanged = λ z. record {
    labels = section_before 0 (omega arith) z;
    steps = list_of (sizes 1 (omega arith) z / 3) (λ i. triple_at (section_before 1 (omega arith) z) (3 * i));
    nodes = nodes z;
    root = root z;
    starts = section_behind z;
  }

  -- ---- row 1
  gap : (from to : ℕ) → ((i : ℕ) → i < to - from → byte_at g (from + i) ≡ byte_at f (from + i)) → padding g from to ≡ padding f from to
  unfolding padding
  gap from to s = ap (λ b. leb from to && leb (to - from) 3 && b) (for_all_ext (to - from) _ _ (λ i h. ap (λ x. eqb x 0) (s i h)))

  between : (k : ℕ) → suc k < sections → ((i : ℕ) → i < offset f (suc k) - end f k → byte_at g (end f k + i) ≡ byte_at f (end f k + i))
      → padding g (end g k) (offset g (suc k)) ≡ padding f (end f k) (offset f (suc k))
  between k h s = ap₂ (padding g) (ends k (omega arith)) (offsets (suc k) h) ∙ gap (end f k) (offset f (suc k)) s

  chain : chained g 0 3 ≡ chained f 0 3
  unfolding chained
  chain =
      let a = between 0 (omega arith) (λ i h. early (end f 0 + i) (omega (arith, section-after standard f e 1 2 (omega arith) (omega arith)))) in
      let b = between 1 (omega arith) (λ i h. early (end f 1 + i) (omega arith)) in
      let c = between 2 (omega arith) (λ i h. past (end f 2 + i) (omega arith)) in
      let d = ap₂ eqb (ends 3 (omega arith)) long in
      λ z. a z && (b z && (c z && d z))

  pairs_same : pairs_hold standard g ≡ pairs_hold standard f
  unfolding pairs_hold
  pairs_same = λ z. leb 16 (long z) && leb (long z) standard.longest && eqb (offsets 0 (omega arith) z) 16 && chain z

  -- clause 13.6
  pub same_layout : SameLayout t f
  same_layout = record { pairs = pairs_same ∙ e; sizes = sizes; case = read-exchanged }

-- ---- every byte of the exchanged file is a byte
module _ (t f : List ℕ) (entries : (i : ℕ) → byte_at t i < 256) (bytes : (i : ℕ) → byte_at f i < 256) where
  stands_small : (k : ℕ) → k < 256 → stands_for t k < 256
  stands_small k h = elim (dec_lt k (length t)) [
    | yes l ↦ rw (stands_there t k l) (entries k)
    | no l ↦ rw (stands_itself t k (omega arith)) h
  ]

  byte_small : (m p : ℕ) → exchanged_byte t f m p < 256
  byte_small m p = go (is_kind f m p) refl
    where
      go : (b : Bool) → is_kind f m p ≡ b → exchanged_byte t f m p < 256
      go true e = rw (exchanged_kind t f m p e) (stands_small (byte_at f p) (bytes p))
      go false e = rw (exchanged_other t f m p e) (bytes p)

  pub exchanged_small : (i : ℕ) → byte_at (exchanged t f) i < 256
  exchanged_small i = go (pairs_hold standard f) refl
    where
      go : (b : Bool) → pairs_hold standard f ≡ b → byte_at (exchanged t f) i < 256
      go true e = rw (byte_at_lem t f e i) (byte_small (size f 2 / 3) i)
      go false e = rw (unlaid t f e) (bytes i)
