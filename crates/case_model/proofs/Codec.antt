-- Reading what was written gives the case that was written.
-- By induction over the list of sections: pair k of `packed l` says where element k of l begins and how long it is, and it is there.
use Prim.Native.Nat.{ℕ, zero, suc, ◌+◌, ◌*◌, ◌/◌, ◌%◌, ◌<◌}
use mathlib.Core.List.{List, [], ◌∷◌, ◌++◌, map, append-nil}
use mathlib.Core.Path.{◌≡◌, refl, sym, ap, ◌∙◌}
use native.Mathlib.Nat.{not-suc-le-zero, le_of_suc-le-suc}
use native.Mathlib.Omega.{arith}
use lib.ListN.{length, get_or, take, length-append, length-map, get_or-append}
use lib.Seq.{get_or-append-add, get_or_at}
use Rattle.case_model.specs.Bytes.{list_of, byte_at, word_at, offset, size, section, word, pairs, joined, packed}
use Rattle.case_model.specs.Case.{Case, triple_at, read, flat, parts, write, at}
use Rattle.case_model.specs.Kinds.{Triple}
use Rattle.case_model.proofs.Lists.{list_of_ext, list_of-get_or}

-- ---- the pairs
-- a number is its low and its high byte, however large
pub word_back : (x : ℕ) → x % 256 + 256 * (x / 256) ≡ x
word_back x = omega arith

-- a word past the first pair
past : (a b : ℕ) (f : List ℕ) (x y : ℕ) → y ≡ suc (suc (suc (suc x))) → word_at (word a ++ (word b ++ f)) y ≡ word_at f x
past a b f x y e =
    let q : y + 1 ≡ suc (suc (suc (suc (x + 1)))) = omega arith in
    rw (q, e)

-- where section k of l begins, the first at `from`
abbrev pub start : ℕ → List (List ℕ) → ℕ → ℕ
start from l k = from + length (joined (take k l))

-- what pair k says, whatever follows the pairs
pairs-offset : (l : List (List ℕ)) (r : List ℕ) (from k : ℕ) → k < length l → offset (pairs from (map length l) ++ r) k ≡ start from l k
pairs-offset [] r from k h = absurd (not-suc-le-zero h)
pairs-offset (s ∷ l) r from zero h = word_back from ∙ omega arith
pairs-offset (s ∷ l) r from (suc k) h =
    past from (length s) (pairs (from + length s) (map length l) ++ r) (4 * k) (4 * suc k) (omega arith)
    ∙ pairs-offset l r (from + length s) k (le_of_suc-le-suc h)
    ∙ omega (arith, length-append s (joined (take k l)))

pairs-size : (l : List (List ℕ)) (r : List ℕ) (from k : ℕ) → k < length l → size (pairs from (map length l) ++ r) k ≡ length (get_or l k [])
pairs-size [] r from k h = absurd (not-suc-le-zero h)
pairs-size (s ∷ l) r from zero h = word_back (length s)
pairs-size (s ∷ l) r from (suc k) h =
    past from (length s) (pairs (from + length s) (map length l) ++ r) (4 * k + 2) (4 * suc k + 2) (omega arith)
    ∙ pairs-size l r (from + length s) k (le_of_suc-le-suc h)

pub length_pairs : (l : List ℕ) (from : ℕ) → length (pairs from l) ≡ 4 * length l
length_pairs [] from = refl
length_pairs (n ∷ l) from = omega (arith, length_pairs l (from + n))

-- byte x of section k
pub joined_at : (l : List (List ℕ)) (k x : ℕ) → x < length (get_or l k []) → byte_at (joined l) (start 0 l k + x) ≡ get_or (get_or l k []) x 0
joined_at [] k x h = absurd (not-suc-le-zero h)
joined_at (s ∷ l) zero x h = let e : 0 + 0 + x ≡ x = omega arith in rw e (get_or-append s (joined l) 0 x h)
joined_at (s ∷ l) (suc k) x h =
    let e : start 0 (s ∷ l) (suc k) + x ≡ length s + (start 0 l k + x) = omega (arith, length-append s (joined (take k l))) in
    rw e (get_or-append-add s (joined l) (start 0 l k + x) 0 ∙ joined_at l k x h)

-- ---- triples as bytes
pub length-flat : (l : List Triple) → length (flat l) ≡ 3 * length l
length-flat [] = refl
length-flat (t ∷ l) = omega (arith, length-flat l)

pub flat_append : (l m : List Triple) → flat (l ++ m) ≡ flat l ++ flat m
flat_append [] m = refl
flat_append (t ∷ l) m = ap (λ z. t.0 ∷ t.1 ∷ t.2 ∷ z) (flat_append l m)

-- triple i, whatever follows the triples
flat-at : (l : List Triple) (r : List ℕ) (i : ℕ) → i < length l → triple_at (flat l ++ r) (3 * i) ≡ at l i
flat-at [] r i h = absurd (not-suc-le-zero h)
flat-at (t ∷ l) r zero h = refl
flat-at (t ∷ l) r (suc i) h =
    let e0 : 3 * suc i ≡ suc (suc (suc (3 * i))) = omega arith in
    let e1 : 3 * suc i + 1 ≡ suc (suc (suc (3 * i + 1))) = omega arith in
    let e2 : 3 * suc i + 2 ≡ suc (suc (suc (3 * i + 2))) = omega arith in
    rw (e2, e1, e0) (flat-at l r i (le_of_suc-le-suc h))

-- ---- the sections of a packed file
module _ (l : List (List ℕ)) where
  -- pair k
  pub packed-offset : (k : ℕ) → k < length l → offset (packed l) k ≡ start (4 * length l) l k
  unfolding packed
  packed-offset = pairs-offset l (joined l) (4 * length l)

  pub packed-size : (k : ℕ) → k < length l → size (packed l) k ≡ length (get_or l k [])
  unfolding packed
  packed-size = pairs-size l (joined l) (4 * length l)

  pub length-packed : length (packed l) ≡ 4 * length l + length (joined l)
  unfolding packed
  length-packed = simp (length-append, length_pairs, length-map)

  -- byte x of section k
  packed-at : (k x : ℕ) → k < length l → x < length (get_or l k []) → byte_at (packed l) (offset (packed l) k + x) ≡ get_or (get_or l k []) x 0
  packed-at k x h b =
      let e : offset (packed l) k + x ≡ length (pairs (4 * length l) (map length l)) + (start 0 l k + x) =
      omega (arith, packed-offset k h, length_pairs (map length l) (4 * length l), length-map l length) in
      rw e (unfold packed in get_or-append-add (pairs (4 * length l) (map length l)) (joined l) (start 0 l k + x) 0 ∙ joined_at l k x b)

  -- section k is element k
  pub packed-section : (k : ℕ) → k < length l → section (packed l) k ≡ get_or l k []
  unfolding section
  packed-section k h =
      ap (λ n. list_of n (λ i. byte_at (packed l) (offset (packed l) k + i))) (packed-size k h)
      ∙ list_of_ext _ _ (λ i. get_or (get_or l k []) i 0) (λ x b. packed-at k x h b) ∙ list_of-get_or (get_or l k []) 0

  -- a section that begins with triples
  packed-triples : (k : ℕ) (t : List Triple) (r : List ℕ) → k < length l → get_or l k [] ≡ flat t ++ r → length r < 3
      → list_of (size (packed l) k / 3) (λ i. triple_at (section (packed l) k) (3 * i)) ≡ t
  packed-triples k t r h e b =
      let long : length (get_or l k []) ≡ 3 * length t + length r = ap length e ∙ simp (length-append, length-flat) in
      let m : size (packed l) k / 3 ≡ length t = omega (arith, packed-size k h) in
      rw (m, packed-section k h, e) (list_of_ext (length t) _ (at t) (flat-at t r) ∙ list_of-get_or t (0, 0, 0))

-- ---- a written case
module _ (c : Case) where
  pub length-write : length (write c) ≡ 17 + length c.labels + 3 * length c.steps + 3 * length c.nodes + length c.starts
  unfolding write
  length-write = simp (length-packed, length-append, length-flat) (omega arith)

  pub size_steps : size (write c) 1 ≡ 3 * length c.steps
  unfolding write
  size_steps = packed-size (parts c) 1 (omega arith) ∙ length-flat c.steps

  pub size-rule : size (write c) 2 ≡ 3 * length c.nodes + 1
  unfolding write
  size-rule = packed-size (parts c) 2 (omega arith) ∙ simp (length-append, length-flat)

  -- the byte after the nodes
  root_back : byte_at (section (write c) 2) (3 * (size (write c) 2 / 3)) ≡ c.root
  unfolding write
  root_back =
      let m : size (write c) 2 / 3 ≡ length c.nodes = omega (arith, size-rule) in
      rw (m, packed-section (parts c) 2 (omega arith)) (get_or_at (flat c.nodes) c.root [] 0 (3 * length c.nodes) (length-flat c.nodes))

  pub read-write : read (write c) ≡ c
  unfolding write
  read-write = λ i. record {
    labels = packed-section (parts c) 0 (omega arith) i;
    steps = packed-triples (parts c) 1 c.steps [] (omega arith) (sym (append-nil (flat c.steps))) (omega arith) i;
    nodes = packed-triples (parts c) 2 c.nodes (c.root ∷ []) (omega arith) refl (omega arith) i;
    root = root_back i;
    starts = packed-section (parts c) 3 (omega arith) i;
  }
