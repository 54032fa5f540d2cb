-- What a reader finds at a position that it has compared with a count: an element, or the default past the end.
-- And the step of a recursion over nodes, and an entry of the table that it fills.
use Prim.Native.Nat.{ℕ, suc, ◌+◌, ◌-◌, ◌*◌, ◌/◌, ◌≤◌, ◌<◌}
use mathlib.Core.Bool.{cond}
use mathlib.Core.List.{List}
use mathlib.Core.Path.{◌≡◌, refl, sym, ap, subst, ◌∙◌}
use native.Mathlib.Omega.{arith}
use borrow.Author.Tests.{lt-ltb}
use lib.Dec.{ltb}
use lib.ListN.{length, get_or, get_or-eq_default}
use Rattle.flc.specs.Sets.{set_of}
use Rattle.flc.specs.Formula.{free}
use Rattle.flc.specs.Nodes.{formula_at}
use Rattle.case_model.specs.Bytes.{list_of, byte_at, offset, size, section}
use Rattle.case_model.specs.Case.{Case, triple_at, triples, at, node_at}
use Rattle.case_model.specs.Limits.{most_nodes, variables, sections}
use Rattle.case_model.proofs.Lists.{get_or-list_of, length-list_of}
use Rattle.case_reader.specs.Read.{free_sets}

pub past {ℓ} : {A : Type ℓ} (l : List A) (d : A) (i : ℕ) {n : ℕ} → n ≡ length l → n ≤ i → d ≡ get_or l i d
past l d i e h = sym (get_or-eq_default l d {n = i} (subst (λ n. n ≤ i) e h))

pub found {ℓ} : {A : Type ℓ} (k : ℕ) (h : ℕ → A) (d : A) (i : ℕ) {n : ℕ} → n ≡ length (list_of k h) → i < n → h i ≡ get_or (list_of k h) i d
found k h d i e l = sym (get_or-list_of k h d i (subst (λ n. i < n) (e ∙ length-list_of k h) l))

-- what a reader of a pair answers, of a section that there is
pub there : {k : ℕ} → k < sections → (x : ℕ) {r : ℕ} → r ≡ cond (ltb k sections) x 0 → r ≡ x
there h x e = e ∙ rw (lt-ltb _ _ h)

-- the triple of a section that stands at a place of the file
pub triple-found : (f : List ℕ) (k i : ℕ) {n : ℕ} → n ≡ length (triples f k) → i < n → triple_at f (offset f k + 3 * i) ≡ at (triples f k) i
unfolding section
triple-found f k i e l =
    let h : i < size f k / 3 = subst (λ n. i < n) (e ∙ length-list_of (size f k / 3) _) l in
    let first = byte (3 * i) (offset f k + 3 * i) (omega arith) refl in
    let second = byte (3 * i + 1) (offset f k + 3 * i + 1) (omega arith) (omega arith) in
    let third = byte (3 * i + 2) (offset f k + 3 * i + 2) (omega arith) (omega arith) in
    (λ z. (first z, second z, third z)) ∙ found (size f k / 3) _ (0, 0, 0) i e l
  where
    byte : (x y : ℕ) → x < size f k → y ≡ offset f k + x → byte_at f y ≡ byte_at (section f k) x
    byte x y h e = ap (byte_at f) e ∙ sym (get_or-list_of (size f k) (λ i. byte_at f (offset f k + i)) 0 x h)

-- a number that is not 0, where a recursion takes its step
pub peel : {A : Type 0} (g : ℕ → A) (i : ℕ) → (i ≡ 0 → ⊥) → g i ≡ g (suc (i - 1))
peel g i h = let e : i ≡ suc (i - 1) = omega arith in ap g e

-- entry j of the table of free variables
pub free_set_lem : (c : Case) (j : ℕ) → j < most_nodes → get_or (free_sets c) j 0 ≡ set_of variables (λ v. free v (formula_at (node_at c) j))
unfolding free_sets
free_set_lem c j h = get_or-list_of most_nodes _ 0 j h
