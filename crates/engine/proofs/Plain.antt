-- A node that is no binder: what the code knows of it once its kind is known, and that what is filled in for it is its function.
-- The kind's line gives the node and the ranges of its operands; a node's function is made of those of the nodes that it names, which are lower.
use Prim.Native.Nat.{ℕ, ◌+◌, ◌*◌, ◌≤◌, ◌<◌}
use mathlib.Core.Bool.{Bool, true}
use mathlib.Core.List.{List}
use mathlib.Core.Logic.{inr}
use mathlib.Core.Path.{◌≡◌, refl, sym, ap, ap₂, ◌∙◌, subst}
use native.Mathlib.Omega.{arith}
use borrow.Author.Tests.{ltb-true}
use lib.Bits.{bit_or, bit_and}
use lib.Dec.{T, ltb, lt→ltb, eqb_refl}
use lib.ListN.{length}
use Rattle.flc.specs.Sets.{both, has}
use Rattle.flc.specs.Formula.{Op, or, and, chop, var, mean_atom, mean, free}
use Rattle.flc.specs.Nodes.{Node, leaf, two, bind, tree, formula_at, Names}
use Rattle.flc.specs.Order.{Agree, GoodEnv}
use Rattle.flc.proofs.Tests.{both_mk}
use Rattle.flc.proofs.Meanings.{mean_small, mean_or, mean_and}
use Rattle.flc.proofs.Unfolding.{formula_at_node}
use Rattle.case_model.specs.Limits.{variables}
use Rattle.case_model.specs.Kinds.{fits, kind_at, node_holds}
use Rattle.case_model.specs.Areas.{Filled}
use Rattle.case_model.proofs.Tests.{is_true, and_l, and_r}
use Rattle.case_model.proofs.Nodes.{Fits, fits-constant, fits_variable, fits_pair, fits_binder, fits_bind}
use Rattle.case_reader.specs.declared.parts.Triple as code
use Rattle.case_reader.specs.declared.kinds.Atom.{Atom}
use Rattle.case_reader.specs.declared.kinds.Operator.{Operator}
use Rattle.case_reader.specs.declared.kinds.Kind.{Kind}
use Rattle.case_reader.specs.declared.kinds.Kind.TheVariants as kind
use Rattle.case_reader.specs.NodeKinds.{atom_with, operand_of, line_of}
use Rattle.case_reader.specs.Read.{triple}
use Rattle.case_reader.proofs.Knowing.{operands, atom_operand}
use Rattle.case_plan.specs.Plans.{Plan, nodes_of, meaning, table_of, Within, Sound}
use Rattle.case_plan.proofs.KnownNodes.{known}
use Rattle.case_plan.proofs.Scopes.{node_fits, node_lower, scope_frees, scope_names}
use Rattle.engine.specs.Blocks.{block, env, Right, value, Fillable, NodeFilled}
use Rattle.engine.proofs.Frames.{apart, in_sets}

module _ {p : Plan} {w : List ℕ} {j : ℕ} (F : Fillable p w j) where
  -- where its block lies
  pub here : j * p.size + p.size ≤ length w
  here = omega (arith, apart p.size j p.count F.there, F.room)

  -- its operands fit
  holds : (t : code.Triple) → triple t ≡ p.nodes j → node_holds j (triple t) ≡ true
  holds t r = subst (λ x. node_holds j x ≡ true) (sym r) (F.sound.rule.kinds j F.there)

  module _ {t : code.Triple} (r : triple t ≡ p.nodes j) {k : Kind} (e : line_of k ≡ kind_at t.0) where
    -- what is filled in for the kind's node is filled in for node j
    pub done : {k' : Kind} → k ≡ k' → {v : List ℕ}
        → Filled w v (j * p.size) p.size (value p ((line_of k').node t.1 t.2) (block p w) (λ v. block p w (p.homes v)))
        → NodeFilled p w v j
    done q {v} S =
        subst (λ n. Filled w v (j * p.size) p.size (value p n (block p w) (λ v. block p w (p.homes v)))) (sym (known p j r e q)) S

    pub operand_fits : {x : Atom} → k ≡ kind.Atom x → (i : ℕ) → fits (operand_of x) i t.1 ≡ true
    operand_fits = atom_operand j (triple t) e (holds t r)

    pub atom_done : {x : Atom} → k ≡ kind.Atom x → {v : List ℕ}
        → Filled w v (j * p.size) p.size (mean_atom (table_of p) (atom_with x t.1)) → NodeFilled p w v j
    unfolding mean
    atom_done q S = done q S

    -- a variable, and its binder
    pub variable_low : k ≡ kind.Variable → (t.1 < variables) × (j < p.homes t.1) × (p.homes t.1 < p.count)
    variable_low q =
        let (h, m) = F.bound t.1 (known p j r e q) in
        (ltb-true t.1 variables (and_l _ _ (operands j (triple t) e (holds t r) q)), h, m)

    pub variable_done : k ≡ kind.Variable → {v : List ℕ} → Filled w v (j * p.size) p.size (block p w (p.homes t.1)) → NodeFilled p w v j
    unfolding mean
    variable_done q S = done q S

    -- the two nodes that an operator names
    pub two_low : {o : Operator} → k ≡ kind.Two o → (t.1 < j) × (t.2 < j)
    two_low q =
        let h = operands j (triple t) e (holds t r) q in
        (ltb-true t.1 j (and_l _ _ h), ltb-true t.2 j (and_r (ltb t.1 j) _ h))

    pub two_sets : {o : Operator} → k ≡ kind.Two o → (x : ℕ) → x < p.size → block p w t.2 x < p.size
    two_sets q = F.sets _ t.1 t.2 (known p j r e q)

    pub no_binder : {d : Bool} → k ≡ kind.Binder d → ⊥
    no_binder {d} q = F.plain d t.1 t.2 (known p j r e q)

-- ---- operators and binders
pub operator_low : {p : Plan} → Sound p → (j : ℕ) → j < p.count → {o : Op} {a b : ℕ} → nodes_of p j ≡ two o a b → b < j
operator_low S j h {b = b} e = node_lower S.rule j h b (subst (λ n. Names n b) (sym e) (inr refl))

pub binder_fits : {p : Plan} → Sound p → (j : ℕ) → j < p.count → {d : Bool} {v b : ℕ} → nodes_of p j ≡ bind d v b → (v < variables) × (b < j)
binder_fits {p} S j h e = fits_bind (nodes_of p j) (node_fits S.rule j h) e

-- ---- functions
-- a node's tree is made of those of the nodes that it names
pub unfolded : {p : Plan} → Sound p → (j : ℕ) → j < p.count → {n : Node} → nodes_of p j ≡ n
    → formula_at (nodes_of p) j ≡ tree n (formula_at (nodes_of p))
unfolded {p} S j h e = formula_at_node (nodes_of p) j (node_lower S.rule j h) ∙ ap (λ n. tree n (formula_at (nodes_of p))) e

-- a node that is a variable has it free
pub free_var : {p : Plan} → Sound p → (j v : ℕ) → j < p.count → nodes_of p j ≡ leaf (var v) → T (free v (formula_at (nodes_of p) j))
free_var S j v h e = subst (λ φ. T (free v φ)) (sym (unfolded S j h e)) (unfold free in eqb_refl v)

pub env_active : (p : Plan) (act : ℕ) (w : List ℕ) (v : ℕ) → v < variables → T (has act v) → env p act w v ≡ block p w (p.homes v)
unfolding env
env_active p act w v h t = rw (is_true (both (ltb v variables) (has act v)) (both_mk _ _ (lt→ltb v variables h) t))

module _ {p : Plan} (S : Sound p) (act : ℕ) (w : List ℕ) (G : GoodEnv p.states (env p act w)) (j : ℕ) (there : j < p.count)
    (within : Within (p.scopes j) act) (R : Right p (env p act w) act w j) where
  -- a node that is named
  named : (a : ℕ) → a < j → Within (p.scopes a) (p.scopes j) → Agree p.states (block p w a) (meaning p a (env p act w))
  named a l s = R a l (λ z g t. within z g (s z g t))

  -- what is filled in for it is its function
  pub value_right : ((d : Bool) (v b : ℕ) → nodes_of p j ≡ bind d v b → ⊥)
      → Agree p.states (value p (nodes_of p j) (block p w) (λ v. block p w (p.homes v))) (meaning p j (env p act w))
  unfolding mean
  value_right plain x k = go (nodes_of p j) (node_fits S.rule j there) refl ∙ ap (λ φ. mean (table_of p) φ (env p act w) x) (sym (unfolded S j there refl))
    where
      go : (m : Node) → Fits j m → nodes_of p j ≡ m
          → value p m (block p w) (λ v. block p w (p.homes v)) x ≡ mean (table_of p) (tree m (formula_at (nodes_of p))) (env p act w) x
      go _ (fits-constant y) e = refl
      go _ (fits_variable v l) e =
          let (h, s) = scope_frees S.rule j v there (free_var S j v there e) in
          ap (λ f. f x) (sym (env_active p act w v h (within v (omega arith) s)))
      go _ (fits_pair or a b h l) e =
          let (s, t) = scope_names S.rule j there e in
          ap₂ bit_or (named a h s x k) (named b l t x k) ∙ sym (mean_or (table_of p) (formula_at (nodes_of p) a) (formula_at (nodes_of p) b) (env p act w) x G k)
      go _ (fits_pair and a b h l) e =
          let (s, t) = scope_names S.rule j there e in
          ap₂ bit_and (named a h s x k) (named b l t x k) ∙ sym (mean_and (table_of p) (formula_at (nodes_of p) a) (formula_at (nodes_of p) b) (env p act w) x G k)
      go _ (fits_pair chop a b h l) e =
          let (s, t) = scope_names S.rule j there e in
          ap (block p w a) (named b l t x k) ∙ named a h s _ (mean_small (table_of p) (formula_at (nodes_of p) b) (env p act w) G x k)
      go _ (fits_binder d v b h l) e = absurd (plain d v b e)

  -- an operator's second node has a table of sets
  pub second_sets : (b : ℕ) → b < j → Within (p.scopes b) (p.scopes j) → (x : ℕ) → x < p.size → block p w b x < p.size
  second_sets b l s x h =
      let k = in_sets S x h in
      let small = mean_small (table_of p) (formula_at (nodes_of p) b) (env p act w) G x k in
      omega (arith, S.sized.size, named b l s x k, small)
