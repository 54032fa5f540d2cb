-- A case file laid whole: the pairs of its sections, then the sections, one after the other.
-- By induction over the list of sections.
use mathlib.Core.List.{List, [], ◌∷◌, map}
use mathlib.Core.Path.{◌≡◌, refl, ap, ap₂, ◌∙◌}
use Prim.Native.Nat.{ℕ, ◌*◌}
use lib.ListN.{length, length-map}
use Rattle.case_model.specs.Bytes.{pairs, joined, packed}
use Rattle.case_writer.specs.Writing.{Writes}
use Rattle.case_writer.specs.declared.output.Output.{Output}
use Rattle.case_writer.proofs.Runs.{writes_none, writes_after, writes_as}

-- sections of such lengths are written, and no more
pub data Sections : Output → Output → List ℕ → List (List ℕ) → Type 0 where
  ended : {o : Output} → Sections o o [] []
  next : {o p q : Output} {n : ℕ} {s sizes : List ℕ} {l : List (List ℕ)} → n ≡ length s → Writes o p s → Sections p q sizes l → Sections o q (n ∷ sizes) (s ∷ l)

lengths : {o p : Output} {sizes : List ℕ} {l : List (List ℕ)} → Sections o p sizes l → sizes ≡ map length l
lengths ended = refl
lengths (next e a k) = ap₂ ◌∷◌ e (lengths k)

writes_joined : {o p : Output} {sizes : List ℕ} {l : List (List ℕ)} → Sections o p sizes l → Writes o p (joined l)
writes_joined {o} ended = writes_none o
writes_joined (next e a k) = writes_after a (writes_joined k)

pub writes_packed : {o p q : Output} (sizes : List ℕ) {l : List (List ℕ)} → Writes o p (pairs (4 * length sizes) sizes)
    → Sections p q sizes l → Writes o q (packed l)
unfolding packed
writes_packed sizes {l} a k =
    let e : length sizes ≡ length l = ap length (lengths k) ∙ length-map l length in
    writes_after (writes_as (ap₂ (λ c z. pairs (4 * c) z) e (lengths k)) a) (writes_joined k)
