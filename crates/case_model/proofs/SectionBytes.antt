-- Sections as bytes: each byte is one of the file or 0, a section of whole triples is these triples, and the rule section is its nodes and the root.
-- The bytes of a list, read one by one from its start, grow by three at a time.
use Prim.Native.Nat.{ℕ, zero, suc, ◌+◌, ◌*◌, ◌/◌, ◌%◌, ◌<◌}
use mathlib.Core.List.{List, [], ◌∷◌, ◌++◌, append_assoc}
use mathlib.Core.Path.{◌≡◌, refl, sym, ap, ◌∙◌}
use native.Mathlib.Decide.{dec_lt}
use native.Mathlib.Omega.{arith}
use lib.ListN.{length}
use Rattle.case_model.specs.Bytes.{list_of, byte_at, offset, size, section}
use Rattle.case_model.specs.Case.{read, triple_at, triples, flat}
use Rattle.case_model.specs.Kinds.{Triple}
use Rattle.case_model.proofs.Lists.{get_or-list_of, get_or-list_of-end, list_of_more, list_of-get_or}
use Rattle.case_model.proofs.Sections.{section-length}
use Rattle.case_model.proofs.Codec.{flat_append}

module _ (s : List ℕ) where
  -- the first k bytes of a list
  abbrev run : ℕ → List ℕ
  run k = list_of k (byte_at s)

  -- three bytes more
  run_triple : (m : ℕ) → run (suc (suc (suc m))) ≡ run m ++ flat (triple_at s m ∷ [])
  run_triple m =
      let p : suc m ≡ m + 1 = omega arith in
      let q : suc (suc m) ≡ m + 2 = omega arith in
      rw (list_of_more (suc (suc m)) (byte_at s), list_of_more (suc m) (byte_at s), list_of_more m (byte_at s), append_assoc, append_assoc)
      (λ z. run m ++ (byte_at s m ∷ byte_at s (p z) ∷ byte_at s (q z) ∷ []))

  run_triples : (k : ℕ) → run (3 * k) ≡ flat (list_of k (λ i. triple_at s (3 * i)))
  unfolding list_of
  run_triples zero = refl
  run_triples (suc k) =
      let g : ℕ → Triple = λ i. triple_at s (3 * i) in
      let e : 3 * suc k ≡ suc (suc (suc (3 * k))) = omega arith in
      ap run e ∙ run_triple (3 * k) ∙ ap (λ l. l ++ flat (g k ∷ [])) (run_triples k)
      ∙ sym (ap flat (list_of_more k g) ∙ flat_append (list_of k g) (g k ∷ []))

  -- all of them
  run_all : (n : ℕ) → length s ≡ n → s ≡ run n
  run_all n e = sym (ap run (sym e) ∙ list_of-get_or s 0)

module _ (f : List ℕ) where
  -- what is read from bytes is bytes
  pub section_small : ((i : ℕ) → byte_at f i < 256) → (k i : ℕ) → byte_at (section f k) i < 256
  unfolding section
  section_small small k i = elim (dec_lt i (size f k)) [
    | yes h ↦ rw (get_or-list_of (size f k) (λ i. byte_at f (offset f k + i)) 0 i h) (small (offset f k + i))
    | no h ↦ rw (get_or-list_of-end (size f k) (λ i. byte_at f (offset f k + i)) 0 i (omega arith)) (omega arith)
  ]

  pub steps_bytes : size f 1 % 3 ≡ 0 → section f 1 ≡ flat (triples f 1)
  steps_bytes h =
      let m : ℕ = size f 1 / 3 in
      run_all (section f 1) (3 * m) (omega (arith, section-length f 1)) ∙ run_triples (section f 1) m

  pub rule_bytes_lem : size f 2 % 3 ≡ 1 → section f 2 ≡ flat (triples f 2) ++ ((read f).root ∷ [])
  rule_bytes_lem h =
      let m : ℕ = size f 2 / 3 in
      run_all (section f 2) (suc (3 * m)) (omega (arith, section-length f 2)) ∙ list_of_more (3 * m) (byte_at (section f 2))
      ∙ ap (λ l. l ++ ((read f).root ∷ [])) (run_triples (section f 2) m)
