-- What the table of kinds says, line by line: a line is a constant, the variable, an operator of two nodes or a binder.
-- The table is gone through once, here; every other proof about kinds goes by the four sorts of line.
use Prim.Native.Nat.{ℕ, zero, suc, ◌≤◌}
use mathlib.Core.Bool.{Bool, true, false}
use mathlib.Core.Path.{◌≡◌, refl, ap, ◌∙◌}
use native.Mathlib.Omega.{arith}
use lib.ListN.{length}
use Rattle.flc.specs.Sets.{singleton}
use Rattle.flc.specs.Formula.{Atom, top, bottom, tau, prop, nprop, modal, Op, or, and, chop, atom, var}
use Rattle.flc.specs.Nodes.{two, bind}
use Rattle.case_model.specs.Limits.{variables, groups}
use Rattle.case_model.specs.Kinds.{Triple, Operand, unused, under, lower_node, Kind, leaf_kind, two_kind, binder_kind}
use Rattle.case_model.specs.Kinds.{kinds, kind_of, kind_at, node_of, is_binder}

-- what a leaf's operand can be: it names no node, and it is a byte
abbrev pub OfLeaf : Operand → Type 0
OfLeaf unused = Unit {0}
OfLeaf lower_node = ⊥
OfLeaf (under n) = n ≤ 256

pub data Line : Kind → Type 0 where
  constant : (f : ℕ → Atom) (x : Operand) → OfLeaf x → Line (leaf_kind (λ a. atom (f a)) x)
  variable : Line (leaf_kind var (under variables))
  pair : (o : Op) → Line (two_kind o)
  binder : (d : Bool) → Line (binder_kind d)

-- the line of each kind; past the table's end, a constant
pub line : (k : ℕ) → Line (kind_at k)
unfolding kind_at kinds
line zero = constant (λ a. top) unused tt
line (suc zero) = constant (λ a. bottom) unused tt
line (suc (suc zero)) = constant prop (under 8) (omega arith)
line (suc (suc (suc zero))) = constant nprop (under 8) (omega arith)
line (suc (suc (suc (suc zero)))) = variable
line (suc (suc (suc (suc (suc zero))))) = constant (λ a. tau) unused tt
line (suc (suc (suc (suc (suc (suc zero)))))) = constant (λ a. modal true (singleton a)) (under 8) (omega arith)
line (suc (suc (suc (suc (suc (suc (suc zero))))))) = constant (λ a. modal false (singleton a)) (under 8) (omega arith)
line (suc (suc (suc (suc (suc (suc (suc (suc zero)))))))) = pair or
line (suc (suc (suc (suc (suc (suc (suc (suc (suc zero))))))))) = pair and
line (suc (suc (suc (suc (suc (suc (suc (suc (suc (suc zero)))))))))) = pair chop
line (suc (suc (suc (suc (suc (suc (suc (suc (suc (suc (suc zero))))))))))) = binder true
line (suc (suc (suc (suc (suc (suc (suc (suc (suc (suc (suc (suc zero)))))))))))) = binder false
line (suc (suc (suc (suc (suc (suc (suc (suc (suc (suc (suc (suc (suc zero))))))))))))) = constant (modal true) (under groups) (omega arith)
line (suc (suc (suc (suc (suc (suc (suc (suc (suc (suc (suc (suc (suc (suc zero)))))))))))))) = constant (modal false) (under groups) (omega arith)
line (suc (suc (suc (suc (suc (suc (suc (suc (suc (suc (suc (suc (suc (suc (suc k))))))))))))))) = constant (λ a. bottom) unused tt

-- how many there are
pub kinds_few : length kinds ≤ 256
unfolding kinds
kinds_few = omega arith

-- ---- operators and binders
-- an operator's kind is its line
pub kind_op : (o : Op) → kind_at (kind_of o) ≡ two_kind o
unfolding kind_at kinds
kind_op or = refl
kind_op and = refl
kind_op chop = refl

pub node_op : (o : Op) (t : Triple) → t.0 ≡ kind_of o → node_of t ≡ two o t.1 t.2
node_op o t e = ap (λ k. (kind_at k).node t.1 t.2) e ∙ ap (λ (κ : Kind). κ.node t.1 t.2) (kind_op o)

-- what a node that is a binder says of its triple
pub bind_operands : (t : Triple) {d : Bool} {v b : ℕ} → node_of t ≡ bind d v b → (t.1 ≡ v) × (t.2 ≡ b)
bind_operands t {d} {v} {b} = go (kind_at t.0) (line t.0)
  where
    go : (κ : Kind) → Line κ → κ.node t.1 t.2 ≡ bind d v b → (t.1 ≡ v) × (t.2 ≡ b)
    go _ (constant f x n) e = (cc, cc)
    go _ variable e = (cc, cc)
    go _ (pair o) e = (cc, cc)
    go _ (binder d) e = (cc, cc)

-- a binder is one of the two
pub binder_node : (t : Triple) → is_binder (node_of t) ≡ true → (d : Bool) × (node_of t ≡ bind d t.1 t.2)
binder_node t = go (kind_at t.0) (line t.0)
  where
    go : (κ : Kind) → Line κ → is_binder (κ.node t.1 t.2) ≡ true → (d : Bool) × (κ.node t.1 t.2 ≡ bind d t.1 t.2)
    go _ (constant f x n) e = (true, cc)
    go _ variable e = (true, cc)
    go _ (pair o) e = (true, cc)
    go _ (binder d) e = (d, refl)
