-- Each of the nine laws brings what a rewriting needs.
-- The shapes say which operators stand at node j and below it; a lawful relation takes the left shape to the right one, then into the new nodes.
use Prim.Native.Nat.{ℕ, zero, suc, ◌+◌, ◌-◌, ◌≤◌, ◌<◌}
use mathlib.Core.Bool.{Bool, true, false, ◌&&◌, ◌||◌, cond}
use mathlib.Core.List.{List, [], ◌∷◌}
use mathlib.Core.Logic.{inl, inr}
use mathlib.Core.Path.{◌≡◌, refl, ap, ◌∙◌}
use native.Mathlib.Decide.{dec_lt, ℕ_discrete}
use native.Mathlib.Omega.{arith}
use borrow.Author.Tests.{leb-true, eqb-true, lt-ltb, le-ltb, eq-eqb, ne_eqb}
use lib.Dec.{eqb}
use lib.ListN.{length, get_or-eq_default}
use Rattle.flc.specs.Formula.{Atom, top, bottom, tau, prop, nprop, Op, or, and, chop, Formula, atom, op}
use Rattle.flc.specs.Nodes.{leaf, two, tree, formula_at}
use Rattle.flc.proofs.Unfolding.{formula_at_node}
use Rattle.flc.proofs.Laws.{Constant, Pointwise}
use Rattle.case_model.specs.Case.{Case, at, node_at}
use Rattle.case_model.specs.Kinds.{Triple, kinds, kind_of, kind_of_tau, last_constant, kind_at, node_of}
use Rattle.case_model.specs.Rewriting.{Change, nothing, swap, redirected, shifted, change}
use Rattle.case_model.proofs.Tests.{and_l, and_r}
use Rattle.case_model.proofs.KindLines.{node_op}
use Rattle.case_model.proofs.Nodes.{node_lower}
use Rattle.case_model.specs.Valid.{ValidRule}
use Rattle.case_model.proofs.Lawful.{Lawful}
use Rattle.case_model.proofs.RenamedNodes.{Pair, Pairs}
use Rattle.case_model.proofs.Swapped.{Becomes, Fit}

-- ---- kinds that the laws name
-- a node of τ's kind, and one of a constant's
node_tau : (t : Triple) → t.0 ≡ kind_of_tau → node_of t ≡ leaf (atom tau)
unfolding kind_at kinds
node_tau t e = rw e

node_constant : (t : Triple) → t.0 ≤ last_constant → (q : Atom) × Constant q × (node_of t ≡ leaf (atom q))
unfolding kind_at kinds
node_constant (zero, a, b) h = (top, tt, refl)
node_constant (suc zero, a, b) h = (bottom, tt, refl)
node_constant (suc (suc zero), a, b) h = (prop a, tt, refl)
node_constant (suc (suc (suc zero)), a, b) h = (nprop a, tt, refl)
node_constant (suc (suc (suc (suc k))), a, b) h = absurd (omega arith)

-- an operator's kind is not 0, that of a node past the end
operator_some : (o : Op) → 0 < kind_of o
operator_some or = omega arith
operator_some and = omega arith
operator_some chop = omega arith

-- an or or an and
pointwise : (k : ℕ) → (eqb k (kind_of or) || eqb k (kind_of and)) ≡ true → (o : Op) × Pointwise o × (k ≡ kind_of o)
pointwise k e = elim (ℕ_discrete k (kind_of or)) [
  | yes q ↦ (or, tt, q)
  | no n ↦ (and, tt, eqb-true k (kind_of and) (rw (ne_eqb k (kind_of or) n) at e))
]

-- an operator of two nodes below j
pair : (o : Op) {j k a b : ℕ} → k ≡ kind_of o → a < j → b < j → Pair j (k, a, b)
pair o e p q = record { operator = o; kind = e; one = p; other = q }

module _ {c : Case} (valid : ValidRule c) where
  abbrev N : List Triple
  N = c.nodes

  -- the tree of node i
  abbrev f : ℕ → Formula
  f = formula_at (node_at c)

  -- from the nodes that it names
  f_tree : (i : ℕ) → i < length N → f i ≡ tree (node_of (at N i)) f
  unfolding node_at
  f_tree i h = formula_at_node (node_at c) i (node_lower valid i h)

  -- node i is an operator of two lower nodes
  record IsOp (o : Op) (i : ℕ) : Type 0 where
    inside : i < length N
    kind : (at N i).0 ≡ kind_of o
    one : (at N i).1 < i
    other : (at N i).2 < i
    parts : f i ≡ op o (f (at N i).1) (f (at N i).2)

  -- by its kind
  is_op : (o : Op) (i : ℕ) → (at N i).0 ≡ kind_of o → IsOp o i
  unfolding node_at
  is_op o i e =
      let q : node_of (at N i) ≡ two o (at N i).1 (at N i).2 = node_op o (at N i) e in
      record {
        inside = h;
        kind = e;
        one = node_lower valid i h _ (rw q (inl refl));
        other = node_lower valid i h _ (rw q (inr refl));
        parts = f_tree i h ∙ rw q;
      }
    where
      -- past the end there is no operator
      h : i < length N
      h = elim (dec_lt i (length N)) [
        | yes l ↦ l
        | no l ↦ absurd (omega (arith, operator_some o, ap (λ (t : Triple). t.0) (get_or-eq_default N (0, 0, 0) {n = i} (omega arith))))
      ]

  module _ (j : ℕ) where
    -- the nodes that node j names
    abbrev a : ℕ
    a = (at N j).1

    abbrev b : ℕ
    b = (at N j).2

    -- laws 1, 2, 3 and 8: k remains
    redirects : (o : Op) → IsOp o j → (k : ℕ) → k < j → ((R : Formula → Formula → Type 0) → Lawful R → R (f j) (f k)) → Fit c j (at N j ∷ []) (redirected j k)
    redirects o J k kj law = record {
      within = J.inside;
      some = omega arith;
      low = λ i h. rw (ne_eqb i j (λ e. omega arith));
      high = λ i h. rw (ne_eqb i j (λ e. omega arith)) (omega arith);
      here = rw (eq-eqb j j refl) (omega arith);
      pairs = (pair o J.kind J.one J.other, tt);
      law = λ R K ψ mid ih. rw (eq-eqb j j refl) (K.then (f j) (f k) (ψ k) (law R K) (ih k kj));
    }

    -- laws 4, 5, 6, 7 and 9: the last of the nodes put in takes the place of j
    inserts : (l : List Triple) → j < length N → 1 ≤ length l → Pairs j l → Becomes c j l (j + (length l - 1)) → Fit c j l (shifted j (length l - 1))
    inserts l inside some pairs law = record {
      within = inside;
      some = some;
      low = λ i h. rw (lt-ltb i j h);
      high = λ i h. rw (le-ltb i j (omega arith)) (omega arith);
      here = rw (le-ltb j j (omega arith)) (omega arith);
      pairs = pairs;
      law = rw (le-ltb j j (omega arith)) law;
    }

    -- ---- laws whose left shape is a chop
    module _ (J : IsOp chop j) where
      -- law 1: τ;A = A
      fit_1 : (at N a).0 ≡ kind_of_tau → Fit c j (at N j ∷ []) (redirected j b)
      fit_1 e =
          let t : f a ≡ atom tau = f_tree a (omega (arith, J.inside, J.one)) ∙ rw (node_tau (at N a) e) in
          redirects chop J b J.other (λ R K. rw (J.parts, t) (K.law1 (f b)))

      -- law 2: A;τ = A
      fit_2 : (at N b).0 ≡ kind_of_tau → Fit c j (at N j ∷ []) (redirected j a)
      fit_2 e =
          let t : f b ≡ atom tau = f_tree b (omega (arith, J.inside, J.other)) ∙ rw (node_tau (at N b) e) in
          redirects chop J a J.one (λ R K. rw (J.parts, t) (K.law2 (f a)))

      -- law 3: q;A = q
      fit_3 : (at N a).0 ≤ last_constant → Fit c j (at N j ∷ []) (redirected j a)
      fit_3 e =
          let (q, k, n) = node_constant (at N a) e in
          let t : f a ≡ atom q = f_tree a (omega (arith, J.inside, J.one)) ∙ rw n in
          redirects chop J a J.one (λ R K. rw (J.parts, t) (K.law3 q k (f b)))

      -- law 4: (A;B);C = A;(B;C)
      fit_4 : IsOp chop a → Fit c j ((kind_of chop, (at N a).2, b) ∷ (kind_of chop, (at N a).1, j) ∷ []) (shifted j 1)
      unfolding kind_at kinds
      fit_4 X =
          let p : (at N a).1 < j = omega (arith, J.one, X.one) in
          let q : (at N a).2 < j = omega (arith, J.one, X.other) in
          inserts _ J.inside (omega arith) (pair chop refl q J.other, (pair chop refl (omega arith) (omega arith), tt)) (λ R K ψ mid ih.
          let m0 : ψ j ≡ op chop (ψ (at N a).2) (ψ b) = mid 0 j (omega arith) (omega arith) in
          let m1 : ψ (j + 1) ≡ op chop (ψ (at N a).1) (ψ j) = mid 1 (j + 1) refl (omega arith) in
          rw (J.parts, X.parts, m1, m0)
          (K.then _ _ _ (K.law4 _ _ _) (K.in_op chop _ _ _ _ (ih _ p) (K.in_op chop _ _ _ _ (ih _ q) (ih b J.other)))))

      -- law 5: A;(B;C) = (A;B);C
      fit_5 : IsOp chop b → Fit c j ((kind_of chop, a, (at N b).1) ∷ (kind_of chop, j, (at N b).2) ∷ []) (shifted j 1)
      unfolding kind_at kinds
      fit_5 Y =
          let p : (at N b).1 < j = omega (arith, J.other, Y.one) in
          let q : (at N b).2 < j = omega (arith, J.other, Y.other) in
          inserts _ J.inside (omega arith) (pair chop refl J.one p, (pair chop refl (omega arith) (omega arith), tt)) (λ R K ψ mid ih.
          let m0 : ψ j ≡ op chop (ψ a) (ψ (at N b).1) = mid 0 j (omega arith) (omega arith) in
          let m1 : ψ (j + 1) ≡ op chop (ψ j) (ψ (at N b).2) = mid 1 (j + 1) refl (omega arith) in
          rw (J.parts, Y.parts, m1, m0)
          (K.then _ _ _ (K.law5 _ _ _) (K.in_op chop _ _ _ _ (K.in_op chop _ _ _ _ (ih a J.one) (ih _ p)) (ih _ q))))

      -- law 6: (A or B);C = (A;C) or (B;C); for and it is law 7
      fit_6 : (o : Op) → Pointwise o → IsOp o a → Fit c j ((kind_of chop, (at N a).1, b) ∷ (kind_of chop, (at N a).2, b) ∷ (kind_of o, j, suc j) ∷ []) (shifted j 2)
      unfolding kind_at kinds
      fit_6 o w X =
          let p : (at N a).1 < j = omega (arith, J.one, X.one) in
          let q : (at N a).2 < j = omega (arith, J.one, X.other) in
          inserts _ J.inside (omega arith)
          (pair chop refl p J.other, (pair chop refl (omega arith) (omega (arith, J.other)), (pair o refl (omega arith) (omega arith), tt)))
          (λ R K ψ mid ih.
          let m0 : ψ j ≡ op chop (ψ (at N a).1) (ψ b) = mid 0 j (omega arith) (omega arith) in
          let m1 : ψ (suc j) ≡ op chop (ψ (at N a).2) (ψ b) = mid 1 (suc j) (omega arith) (omega arith) in
          let m2 : ψ (j + 2) ≡ op o (ψ j) (ψ (suc j)) = mid 2 (j + 2) refl (omega arith) ∙ ap (λ n. tree n ψ) (node_op o (kind_of o, j, suc j) refl) in
          rw (J.parts, X.parts, m2, m1, m0)
          (K.then _ _ _ (K.law6 o w _ _ _)
          (K.in_op o _ _ _ _ (K.in_op chop _ _ _ _ (ih _ p) (ih b J.other)) (K.in_op chop _ _ _ _ (ih _ q) (ih b J.other)))))

    -- ---- laws whose left shape is an or or an and
    module _ (o : Op) (w : Pointwise o) (J : IsOp o j) where
      -- law 8: A or A = A; so with and
      fit_8 : a ≡ b → Fit c j (at N j ∷ []) (redirected j a)
      fit_8 e = redirects o J a J.one (λ R K. rw (J.parts, ← e) (K.law8 o w (f a)))

      -- law 9: A or B = B or A; so with and
      fit_9 : Fit c j (((at N j).0, b, a) ∷ []) (shifted j 0)
      fit_9 = inserts _ J.inside (omega arith) (pair o J.kind J.other J.one, tt) (λ R K ψ mid ih.
          let m0 : ψ (j + 0) ≡ op o (ψ b) (ψ a) = mid 0 (j + 0) refl (omega arith) ∙ ap (λ n. tree n ψ) (node_op o ((at N j).0, b, a) J.kind) in
          rw (J.parts, m0)
          (K.then _ _ _ (K.law9 o w (f a) (f b)) (K.in_op o _ _ _ _ (ih b J.other) (ih a J.one))))

-- ---- the table of laws
-- a change that is none, or brings what it must
pub data Brings (c : Case) (j : ℕ) : Change → Type 1 where
  no_change : Brings c j nothing
  brings_fit : {l : List Triple} {g : ℕ → ℕ} → Fit c j l g → Brings c j (swap l g)

-- and what it brings
pub the_fit : {c : Case} {j : ℕ} {l : List Triple} {g : ℕ → ℕ} → Brings c j (swap l g) → Fit c j l g
the_fit (brings_fit F) = F

-- by the test of its row
given : (c : Case) (j : ℕ) (l : List Triple) (g : ℕ → ℕ) (t : Bool) → (t ≡ true → Fit c j l g) → Brings c j (cond t (swap l g) nothing)
given c j l g true h = brings_fit (h refl)
given c j l g false h = no_change

module _ {c : Case} (valid : ValidRule c) (j : ℕ) where
  -- the row of a law for chops, and of one for or and and
  at_chop : (t : Bool) (l : List Triple) (g : ℕ → ℕ) → (IsOp valid chop j → t ≡ true → Fit c j l g)
      → Brings c j (cond (eqb (at c.nodes j).0 (kind_of chop) && t) (swap l g) nothing)
  at_chop t l g h = given c j l g (eqb (at c.nodes j).0 (kind_of chop) && t) (λ e.
      h (is_op valid chop j (eqb-true _ (kind_of chop) (search and_l))) (search and_r))

  at_pair : (t : Bool) (l : List Triple) (g : ℕ → ℕ) → ((o : Op) → Pointwise o → IsOp valid o j → t ≡ true → Fit c j l g)
      → Brings c j (cond ((eqb (at c.nodes j).0 (kind_of or) || eqb (at c.nodes j).0 (kind_of and)) && t) (swap l g) nothing)
  at_pair t l g h = given c j l g ((eqb (at c.nodes j).0 (kind_of or) || eqb (at c.nodes j).0 (kind_of and)) && t) (λ e.
      let (o, w, k) = pointwise (at c.nodes j).0 (search and_l) in
      h o w (is_op valid o j k) (search and_r))

  -- laws 1 to 9, in order
  pub brings : (law : ℕ) → Brings c j (change c.nodes law j)
  unfolding change
  brings zero = no_change
  brings (suc zero) = at_chop _ _ _ (λ J e. fit_1 valid j J (eqb-true _ kind_of_tau e))
  brings (suc (suc zero)) = at_chop _ _ _ (λ J e. fit_2 valid j J (eqb-true _ kind_of_tau e))
  brings (suc (suc (suc zero))) = at_chop _ _ _ (λ J e. fit_3 valid j J (leb-true _ last_constant e))
  brings (suc (suc (suc (suc zero)))) = at_chop _ _ _ (λ J e. fit_4 valid j J (is_op valid chop _ (eqb-true _ (kind_of chop) e)))
  brings (suc (suc (suc (suc (suc zero))))) = at_chop _ _ _ (λ J e. fit_5 valid j J (is_op valid chop _ (eqb-true _ (kind_of chop) e)))
  brings (suc (suc (suc (suc (suc (suc zero)))))) = at_chop _ _ _ (λ J e. fit_6 valid j J or tt (is_op valid or _ (eqb-true _ (kind_of or) e)))
  brings (suc (suc (suc (suc (suc (suc (suc zero))))))) = at_chop _ _ _ (λ J e. fit_6 valid j J and tt (is_op valid and _ (eqb-true _ (kind_of and) e)))
  brings (suc (suc (suc (suc (suc (suc (suc (suc zero)))))))) = at_pair _ _ _ (λ o w J e. fit_8 valid j o w J (eqb-true _ _ e))
  brings (suc (suc (suc (suc (suc (suc (suc (suc (suc zero))))))))) = given c j _ _ _ (λ e.
      let (o, w, k) = pointwise (at c.nodes j).0 e in
      fit_9 valid j o w (is_op valid o j k))
  brings (suc (suc (suc (suc (suc (suc (suc (suc (suc (suc i)))))))))) = no_change
