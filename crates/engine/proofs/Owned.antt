-- Reached nodes that are right with every variable read as its binder's block has it are right with each variable as its own fixed point.
-- By the binders from the highest down: the free variables of one have their binders above it, so that its block is its variable's own function.
use Prim.Native.Nat.{ℕ, zero, suc, ◌+◌, ◌≤◌, ◌<◌}
use mathlib.Core.Bool.{Bool}
use mathlib.Core.List.{List}
use mathlib.Core.Path.{◌≡◌, sym, ap, ◌∙◌}
use native.Mathlib.Omega.{arith}
use lib.Dec.{T, eqb_refl, eqb→eq}
use Rattle.flc.specs.Formula.{Env, free}
use Rattle.flc.specs.Nodes.{Node, leaf, two, bind, formula_at}
use Rattle.flc.specs.Order.{Agree}
use Rattle.flc.specs.Own.{binds, own}
use Rattle.flc.proofs.Meanings.{mean-env}
use Rattle.flc.proofs.Owning.{own_good, own_binder}
use Rattle.case_model.specs.Reach.{Reached}
use Rattle.case_plan.specs.Plans.{Plan, table_of, nodes_of, meaning, Sound}
use Rattle.engine.specs.Blocks.{block, RightAt}
use Rattle.engine.specs.Dependence.{as_bound}
use Rattle.engine.proofs.Depending.{bound, reached_there}
use Rattle.engine.proofs.Staying.{as_bound-at}

-- a node that binds w is its binder
binder_is : (m : Node) (w : ℕ) → T (binds m w) → (d : Bool) × (b : ℕ) × (m ≡ bind d w b)
binder_is (leaf p) w t = absurd t
binder_is (two o a b) w t = absurd t
binder_is (bind d v b) w t = (d, b, ap (λ v. bind d v b) (sym (eqb→eq w v t)))

module _ {p : Plan} (S : Sound p) (w : List ℕ) (R : (i : ℕ) → Reached (nodes_of p) p.root i → RightAt p (as_bound p w) w i) where
  abbrev ρ : Env
  ρ = own (table_of p) (nodes_of p) p.count

  -- a node that binds v is its home
  at_home : (i v : ℕ) → i < p.count → T (binds (nodes_of p i) v) → p.homes v ≡ i
  at_home i v h t = let (d, b, e) = binder_is (nodes_of p i) v t in S.rule.homes i h e

  -- the own function of a variable is its binder's
  own_fixed : (i v : ℕ) → Reached (nodes_of p) p.root i → T (free v (formula_at (nodes_of p) i)) → ρ v ≡ meaning p (p.homes v) ρ
  own_fixed i v r t =
      let B = bound S i v r t in
      own_binder (table_of p) (nodes_of p) (p.homes v) v (rw B.is (eqb_refl v))
      (λ u f k l q. let e = at_home k u (omega (arith, reached_there S (p.homes v) B.met)) q in
      omega (arith, (bound S (p.homes v) u B.met f).higher))
      p.count (reached_there S (p.homes v) B.met)
      (λ k l q. sym (at_home k v l q))

  -- read so, the free variables of node i have their own functions, if the binders above it have
  higher : (i : ℕ) → Reached (nodes_of p) p.root i
      → ((v : ℕ) → T (free v (formula_at (nodes_of p) i)) → Agree p.states (block p w (p.homes v)) (ρ v))
      → Agree p.states (meaning p i (as_bound p w)) (meaning p i ρ)
  higher i r up = mean-env (table_of p) (formula_at (nodes_of p) i) (as_bound p w) ρ (λ v t. own_good (table_of p) (nodes_of p) p.count v) (λ v t x k.
      as_bound-at S w v x k ∙ up v t x k)

  -- and they have, the highest first
  homes : (k i v : ℕ) → p.count ≤ i + k → Reached (nodes_of p) p.root i → T (free v (formula_at (nodes_of p) i))
      → Agree p.states (block p w (p.homes v)) (ρ v)
  homes zero i v h r t x q = absurd (omega (arith, reached_there S i r))
  homes (suc k) i v h r t x q =
      let B = bound S i v r t in
      R (p.homes v) B.met x q
      ∙ higher (p.homes v) B.met (λ u f. homes k (p.homes v) u (omega (arith, B.higher)) B.met f) x q
      ∙ ap (λ f. f x) (sym (own_fixed i v r t))

  pub own_right : (j : ℕ) → Reached (nodes_of p) p.root j → RightAt p (own (table_of p) (nodes_of p) p.count) w j
  own_right j r x k = R j r x k ∙ higher j r (λ v t. homes p.count j v (omega arith) r t) x k
