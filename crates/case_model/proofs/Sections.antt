-- Where the pairs' rule holds, a section lies behind those before it and within the file, and is that part of it; and the laws of what a row finds.
-- The rule is followed by induction over the number of sections; a search that finds nothing passed every place.
use Prim.Native.Nat.{ℕ, zero, suc, ◌+◌, ◌-◌, ◌*◌, ◌≤◌, ◌<◌}
use mathlib.Core.Bool.{Bool, true, false, not}
use mathlib.Core.List.{List}
use mathlib.Core.Path.{◌≡◌, refl, sym, ◌∙◌, subst}
use native.Mathlib.Decide.{ℕ_discrete}
use native.Mathlib.Nat.{not-suc-le-zero}
use native.Mathlib.Omega.{arith}
use borrow.Author.Tests.{eqb-true, leb-true, eq-eqb, not-true}
use lib.Dec.{T}
use lib.ListN.{length, take, drop}
use Rattle.flc.specs.Sets.{for_all, first}
use Rattle.flc.proofs.Tests.{for_all_use, for_all_mk, first_least}
use Rattle.case_model.specs.Bytes.{byte_at, offset, size, end, padding, chained, pairs_hold, section}
use Rattle.case_model.specs.Limits.{Limits, sections, most_padding}
use Rattle.case_model.specs.Rows.{Found, sound, refused, ◌or_else◌, unless, lowest}
use Rattle.case_model.proofs.Lists.{length-list_of, list_of-part}
use Rattle.case_model.proofs.Tests.{is_true, is_false, and_l, and_r}

-- ---- sections
-- how far apart two sections are with padding between them
pub record Gap (from to : ℕ) : Type 0 where
  pub after : from ≤ to
  pub near : to ≤ from + most_padding

padding_gap : (f : List ℕ) (from to : ℕ) → padding f from to ≡ true → Gap from to
unfolding padding
padding_gap f from to e =
    let a : from ≤ to = leb-true from to (search (and_l, and_r)) in
    let b : to - from ≤ most_padding = leb-true (to - from) most_padding (search (and_l, and_r)) in
    record { after = a; near = omega arith }

-- of section k and c more
chained_gap : (f : List ℕ) (k c : ℕ) → chained f k c ≡ true → (i : ℕ) → k ≤ i → i < k + c → Gap (end f i) (offset f (suc i))
unfolding chained
chained_gap f k zero e i l r = absurd (omega arith)
chained_gap f k (suc c) e i l r =
    let g : Gap (end f k) (offset f (suc k)) = padding_gap f _ _ (search and_l) in
    let later = chained_gap f (suc k) c (search and_r) in
    elim (ℕ_discrete i k) [ yes q ↦ rw q g | no q ↦ later i (omega arith) (omega arith) ]

chained-end : (f : List ℕ) (k c : ℕ) → chained f k c ≡ true → end f (k + c) ≡ length f
unfolding chained
chained-end f k zero e = let z : k + 0 ≡ k = omega arith in rw z (eqb-true (end f k) (length f) e)
chained-end f k (suc c) e = let z : k + suc c ≡ suc k + c = omega arith in rw z (chained-end f (suc k) c (search and_r))

module _ (most : Limits) (f : List ℕ) (e : pairs_hold most f ≡ true) where
  pub within_longest : length f ≤ most.longest
  unfolding pairs_hold
  within_longest = leb-true _ _ (search (and_l, and_r))

  -- section 0 follows the head
  pub head_first : offset f 0 ≡ 4 * sections
  unfolding pairs_hold
  head_first = eqb-true _ _ (search (and_l, and_r))

  chain : chained f 0 (sections - 1) ≡ true
  unfolding pairs_hold
  chain = search and_r

  pub last_end : end f (sections - 1) ≡ length f
  last_end = chained-end f 0 (sections - 1) chain

  -- a section begins behind the one before it, and so behind each before it
  pub section_gap : (k : ℕ) → suc k < sections → Gap (end f k) (offset f (suc k))
  section_gap k h = chained_gap f 0 (sections - 1) chain k (omega arith) (omega arith)

  pub section-after : (i j : ℕ) → i < j → j < sections → end f i ≤ offset f j
  section-after i zero l h = absurd (not-suc-le-zero l)
  section-after i (suc j) l h = elim (ℕ_discrete i j) [
    | yes q ↦ rw q (section_gap j h).after
    | no q ↦ omega (arith, section-after i j (omega arith) (omega arith), (section_gap j h).after)
  ]

  -- and ends within the file
  pub within : (k : ℕ) → k < sections → end f k ≤ length f
  within k h = elim (ℕ_discrete k (sections - 1)) [
    | yes q ↦ rw q (omega (arith, last_end))
    | no q ↦ omega (arith, last_end, section-after k (sections - 1) (omega arith) (omega arith))
  ]

-- as a list it is as long as its pair says
pub section-length : (f : List ℕ) (k : ℕ) → length (section f k) ≡ size f k
unfolding section
section-length f k = length-list_of (size f k) (λ i. byte_at f (offset f k + i))

-- a section is a part of the file
pub section-part : (most : Limits) (f : List ℕ) → pairs_hold most f ≡ true → (k : ℕ) → k < sections → section f k ≡ take (size f k) (drop (offset f k) f)
unfolding section
section-part most f e k h = list_of-part f (offset f k) (size f k) 0 (within most f e k h)

-- ---- what a row finds
-- rows asked after one another
pub or_else_assoc : (a b c : Found) → a or_else b or_else c ≡ a or_else (b or_else c)
or_else_assoc sound b c = refl
or_else_assoc (refused k p) b c = refl

-- nothing was found, so each row found nothing
pub left_sound : (a b : Found) → a or_else b ≡ sound → a ≡ sound
left_sound sound b e = refl
left_sound (refused k p) b e = e

pub right_sound : (a b : Found) → a or_else b ≡ sound → b ≡ sound
right_sound sound b e = e
right_sound (refused k p) b e = cc

-- and each test passed
pub unless_sound : (t : Bool) (k p : ℕ) → unless t k p ≡ sound → t ≡ true
unless_sound true k p e = refl
unless_sound false k p e = cc

-- a search that found nothing: nothing is wrong at any of the places
pub lowest_sound : (k : ℕ) (wrong : ℕ → Bool) (c : ℕ) → lowest k wrong c ≡ sound → (i : ℕ) → i < c → wrong i ≡ false
unfolding lowest
lowest_sound k wrong c s i h =
    let e : first wrong 0 c ≡ c = eqb-true _ _ (unless_sound _ k _ s) in
    is_false (wrong i) (first_least wrong 0 c i (omega arith) (omega arith))

-- a search for what no number passes ends past the last
first-none : (p : ℕ → Bool) (i k : ℕ) → ((x : ℕ) → i ≤ x → x < i + k → p x ≡ false) → first p i k ≡ i + k
unfolding first
first-none p i zero h = omega arith
first-none p i (suc k) h =
    rw (h i (omega arith) (omega arith)) (first-none p (suc i) k (λ x l r. h x (omega arith) (omega arith)) ∙ omega arith)

-- where nothing is wrong, nothing is found
pub sound_lowest : (k : ℕ) (wrong : ℕ → Bool) (c : ℕ) → ((i : ℕ) → i < c → wrong i ≡ false) → lowest k wrong c ≡ sound
unfolding lowest
sound_lowest k wrong c h =
    rw (eq-eqb (first wrong 0 c) c (first-none wrong 0 c (λ x l r. h x (omega arith)) ∙ omega arith))

-- a list of which no element is at fault
pub none-wrong : (wrong : ℕ → Bool) (c : ℕ) → for_all c (λ i. not (wrong i)) ≡ true → (i : ℕ) → i < c → wrong i ≡ false
none-wrong wrong c e i h = not-true (wrong i) (is_true _ (for_all_use c (λ i. not (wrong i)) (subst T (sym e) tt) i h))

pub wrong-none : (wrong : ℕ → Bool) (c : ℕ) → ((i : ℕ) → i < c → wrong i ≡ false) → for_all c (λ i. not (wrong i)) ≡ true
wrong-none wrong c h = is_true _ (for_all_mk c (λ i. not (wrong i)) (λ i k. rw (h i k) tt))
