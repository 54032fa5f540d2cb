-- A node whose names are changed, and nodes that a law puts in: what they are made of, and that row 5 still passes.
-- By the four sorts of line: the nodes named are both operands of an operator, the second of a binder, and none elsewhere.
use Prim.Native.Nat.{ℕ, zero, suc, ◌+◌, ◌<◌}
use mathlib.Core.Bool.{true, false, ◌&&◌}
use mathlib.Core.List.{List, [], ◌∷◌}
use mathlib.Core.Path.{◌≡◌, refl}
use native.Mathlib.Nat.{not-suc-le-zero, le_of_suc-le-suc}
use native.Mathlib.Omega.{arith}
use borrow.Author.Tests.{ltb-true, lt-ltb}
use lib.Dec.{eqb, ltb}
use lib.ListN.{length}
use Rattle.flc.specs.Formula.{Op, or, and, chop, Formula}
use Rattle.flc.specs.Nodes.{Names, tree}
use Rattle.case_model.specs.Case.{at}
use Rattle.case_model.specs.Kinds.{Triple, unused, under, lower_node, Kind, fits, kinds, kind_of, kind_at, node_of, node_holds, is_binder}
use Rattle.case_model.specs.Limits.{variables}
use Rattle.case_model.specs.Rows.{binds}
use Rattle.case_model.specs.Rewriting.{first_renamed, second_renamed, renamed}
-- checked first: a slip in a law is told as a false equation there
use Rattle.case_model.proofs.EditExamples as examples
use Rattle.case_model.proofs.Tests.{and_l, and_r}
use Rattle.case_model.proofs.KindLines.{Line, constant, variable, pair, binder, line, kind_op, node_op}
use Rattle.case_model.proofs.Nodes.{fits_names, holds_fits}

-- ---- a renamed node
module _ (g : ℕ → ℕ) (t : Triple) where
  -- its operands, if its line is κ
  abbrev first : Kind → ℕ
  first κ = first_renamed (κ.node t.1 t.2) g t.1

  abbrev second : Kind → ℕ
  second κ = second_renamed (κ.node t.1 t.2) g t.2

  -- its tree is made of what became of the nodes that it named
  pub tree-renamed : (φ : ℕ → Formula) → tree (node_of (renamed g t)) φ ≡ tree (node_of t) (λ i. φ (g i))
  tree-renamed φ = go (kind_at t.0) (line t.0)
    where
      go : (κ : Kind) → Line κ → tree (κ.node (first κ) (second κ)) φ ≡ tree (κ.node t.1 t.2) (λ i. φ (g i))
      go _ (constant f x n) = refl
      go _ variable = refl
      go _ (pair o) = refl
      go _ (binder d) = refl

  -- it binds what it bound
  pub binds-renamed : (v : ℕ) → binds (renamed g t) v ≡ binds t v
  binds-renamed v = go (kind_at t.0) (line t.0)
    where
      go : (κ : Kind) → Line κ → (is_binder (κ.node (first κ) (second κ)) && eqb (first κ) v) ≡ (is_binder (κ.node t.1 t.2) && eqb t.1 v)
      go _ (constant f x n) = refl
      go _ variable = refl
      go _ (pair o) = refl
      go _ (binder d) = refl

  -- it passes row 5 as node z if the nodes below x became nodes below z
  pub renamed-holds : (x z : ℕ) → ((y : ℕ) → y < x → g y < z) → node_holds x t ≡ true → node_holds z (renamed g t) ≡ true
  renamed-holds x z rises e = rw (and_l (ltb t.0 (length kinds)) _ e) (go (kind_at t.0) (line t.0) (and_r (ltb t.0 (length kinds)) _ e))
    where
      -- a node that was lower is lower
      named : (y : ℕ) → ltb y x ≡ true → ltb (g y) z ≡ true
      named y h = lt-ltb (g y) z (rises y (ltb-true y x h))

      go : (κ : Kind) → Line κ → (fits κ.first x t.1 && fits κ.second x t.2) ≡ true
          → (fits κ.first z (first κ) && fits κ.second z (second κ)) ≡ true
      go _ (constant f unused n) e = e
      go _ (constant f lower_node n) e = absurd n
      go _ (constant f (under k) n) e = e
      go _ variable e = e
      go _ (pair o) e = rw (named t.1 (and_l (ltb t.1 x) (ltb t.2 x) e), named t.2 (and_r (ltb t.1 x) (ltb t.2 x) e))
      go _ (binder d) e = rw (and_l (ltb t.1 variables) (ltb t.2 x) e, named t.2 (and_r (ltb t.1 variables) (ltb t.2 x) e))

-- a node that passes row 5 names lower nodes
pub holds-lower : (j : ℕ) (t : Triple) → node_holds j t ≡ true → (i : ℕ) → Names (node_of t) i → i < j
holds-lower j t e = fits_names (node_of t) (holds_fits j t e)

-- ---- nodes put in
-- an or, an and or a chop of nodes below j
pub record Pair (j : ℕ) (t : Triple) : Type 0 where
  pub operator : Op
  pub kind : t.0 ≡ kind_of operator
  pub one : t.1 < j
  pub other : t.2 < j

-- nodes from j on that are such
abbrev pub Pairs : ℕ → List Triple → Type 0
Pairs j [] = Unit {0}
Pairs j (t ∷ l) = Pair j t × Pairs (suc j) l

-- each of them
pub pairs-at : (l : List Triple) (j : ℕ) → Pairs j l → (i : ℕ) → i < length l → Pair (j + i) (at l i)
pairs-at [] j p i h = absurd (not-suc-le-zero h)
pairs-at (t ∷ l) j p zero h = let e : j + 0 ≡ j = omega arith in rw e p.0
pairs-at (t ∷ l) j p (suc i) h = let e : j + suc i ≡ suc j + i = omega arith in rw e (pairs-at l (suc j) p.1 i (le_of_suc-le-suc h))

-- which passes row 5
pub pair_holds : (j : ℕ) (t : Triple) → Pair j t → node_holds j t ≡ true
unfolding kinds
pair_holds j t p = rw (p.kind, kind_op p.operator, known p.operator, lt-ltb t.1 j p.one, lt-ltb t.2 j p.other)
  where
    known : (o : Op) → ltb (kind_of o) (length kinds) ≡ true
    known or = refl
    known and = refl
    known chop = refl

-- and is no binder
pub pair_plain : {j : ℕ} (t : Triple) → Pair j t → (v : ℕ) → binds t v ≡ false
pair_plain t p v = rw (node_op p.operator t p.kind)
