-- A valid case whose labels are bytes is written in bytes.
-- Lists of bytes are closed under `◌∷◌` and `◌++◌`; each line of the table of kinds leaves no room for a larger number.
use Prim.Native.Nat.{ℕ, zero, suc, ◌+◌, ◌*◌, ◌≤◌, ◌<◌, suc-le-suc}
use mathlib.Core.Bool.{true, ◌&&◌}
use mathlib.Core.List.{List, [], ◌∷◌, ◌++◌, map}
use mathlib.Core.Path.{◌≡◌}
use native.Mathlib.Decide.{dec_lt}
use native.Mathlib.Omega.{arith}
use borrow.Author.Tests.{eqb-true, ltb-true}
use lib.Dec.{ltb}
use lib.ListN.{length, length-append, get_or-eq_default}
use Rattle.case_model.specs.Limits.{sections, variables, standard}
use Rattle.case_model.specs.Bytes.{byte_at, pairs, joined, packed}
use Rattle.case_model.specs.Case.{Case, flat, parts, write, at}
use Rattle.case_model.specs.Kinds.{Triple, unused, under, lower_node, Kind, fits, kinds, kind_at, node_holds}
use Rattle.case_model.proofs.Tests.{and_l, and_r}
use Rattle.case_model.proofs.KindLines.{Line, constant, variable, pair, binder, line, kinds_few}
use Rattle.case_model.proofs.Codec.{length-packed}
use Rattle.case_model.specs.Valid.{Valid}
use Rattle.case_model.proofs.Steps.{step_in}
use Rattle.case_model.proofs.Accepting.{write_short}
use Rattle.case_model.proofs.Starts.{start_in}

-- ---- lists of bytes
record Bytes (l : List ℕ) : Type 0 where
  small : (i : ℕ) → byte_at l i < 256

none : Bytes []
none = record { small = λ i. omega arith }

more : {x : ℕ} {l : List ℕ} → x < 256 → Bytes l → Bytes (x ∷ l)
more {x} {l} h b = record { small = go }
  where
    go : (i : ℕ) → byte_at (x ∷ l) i < 256
    go zero = h
    go (suc i) = b.small i

rest : {x : ℕ} {l : List ℕ} → Bytes (x ∷ l) → Bytes l
rest b = record { small = λ i. b.small (suc i) }

joint : (l : List ℕ) {r : List ℕ} → Bytes l → Bytes r → Bytes (l ++ r)
joint [] p q = q
joint (x ∷ l) p q = more (p.small 0) (joint l (rest p) q)

-- pairs of numbers of two bytes
bytes_pairs : (l : List (List ℕ)) (from : ℕ) → from + length (joined l) < 65536 → Bytes (pairs from (map length l))
bytes_pairs [] from h = none
bytes_pairs (s ∷ l) from h =
    let e = length-append s (joined l) in
    more (omega arith) (more (omega arith) (more (omega arith) (more (omega arith) (bytes_pairs l (from + length s) (omega arith)))))

-- ---- triples of bytes
record Small (x : Triple) : Type 0 where
  first : x.0 < 256
  second : x.1 < 256
  third : x.2 < 256

bytes_flat : (l : List Triple) → ((i : ℕ) → i < length l → Small (at l i)) → Bytes (flat l)
bytes_flat [] h = none
bytes_flat (x ∷ l) h =
    let s : Small x = h 0 (omega arith) in
    more s.first (more s.second (more s.third (bytes_flat l (λ i k. h (suc i) (suc-le-suc k)))))

-- a node that passes row 5
node_small : (j : ℕ) (t : Triple) → j ≤ 256 → node_holds j t ≡ true → Small t
node_small j t h e =
    let (a, b) = go (kind_at t.0) (line t.0) (and_r (ltb t.0 (length kinds)) _ e) in
    let k : t.0 < length kinds = ltb-true _ _ (and_l (ltb t.0 (length kinds)) _ e) in
    record { first = omega (arith, kinds_few); second = a; third = b }
  where
    go : (κ : Kind) → Line κ → (fits κ.first j t.1 && fits κ.second j t.2) ≡ true → (t.1 < 256) × (t.2 < 256)
    go _ (constant f unused n) e = (omega (arith, eqb-true t.1 0 (search and_l)), omega (arith, eqb-true t.2 0 (search and_r)))
    go _ (constant f lower_node n) e = absurd n
    go _ (constant f (under k) n) e = (omega (arith, ltb-true t.1 k (search and_l)), omega (arith, eqb-true t.2 0 (search and_r)))
    go _ variable e = (omega (arith, ltb-true t.1 variables (search and_l)), omega (arith, eqb-true t.2 0 (search and_r)))
    go _ (pair o) e = (omega (arith, ltb-true t.1 j (search and_l)), omega (arith, ltb-true t.2 j (search and_r)))
    go _ (binder d) e = (omega (arith, ltb-true t.1 variables (search and_l)), omega (arith, ltb-true t.2 j (search and_r)))

-- ---- the written case
pub write_bytes : (c : Case) → Valid standard c → ((i : ℕ) → byte_at c.labels i < 256) → (i : ℕ) → byte_at (write c) i < 256
unfolding write packed
write_bytes c valid labels i =
    (joint (pairs (4 * sections) (map length (parts c)))
    (bytes_pairs (parts c) (4 * sections)
    (omega (arith, length-packed (parts c), write_short c valid)))
    (joint c.labels (record { small = labels }) (joint (flat c.steps) (bytes_flat c.steps step)
    (joint (flat c.nodes ++ (c.root ∷ []))
    (joint (flat c.nodes) (bytes_flat c.nodes node) (more (omega (arith, valid.rule.root, valid.rule.most)) none))
    (joint c.starts (record { small = start }) none))))
    ).small i
  where
    start : (i : ℕ) → byte_at c.starts i < 256
    start i = elim (dec_lt i (length c.starts)) [
      | yes h ↦ omega (arith, start_in valid i h, valid.table.few)
      | no h ↦ rw (get_or-eq_default c.starts 0 {n = i} (omega arith)) (omega arith)
    ]

    step : (i : ℕ) → i < length c.steps → Small (at c.steps i)
    step i h =
        let r = step_in valid.table i h in
        record { first = omega (arith, valid.table.few); second = omega arith; third = omega (arith, valid.table.few) }

    node : (j : ℕ) → j < length c.nodes → Small (at c.nodes j)
    node j h = node_small j (at c.nodes j) (omega (arith, valid.rule.most)) (valid.rule.kinds j h)
