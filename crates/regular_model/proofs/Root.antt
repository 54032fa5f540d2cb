-- The whole rule: the recursion begins with nothing old and nothing active, and what the root's block then holds is the meaning at every set.
use mathlib.Core.Path.{◌≡◌, sym, ◌∙◌, subst}
use Prim.Native.Nat.{ℕ, suc, ◌^◌, ◌<◌}
use native.Mathlib.Nat.{not-suc-le-zero}
use native.Mathlib.Omega.{arith}
use lib.Dec.{T, eqb→eq}
use Rattle.flc.specs.Sets.{has}
use Rattle.flc.specs.Formula.{mean, none}
use Rattle.flc.specs.Nodes.{formula_at}
use Rattle.flc.proofs.Masks.{has_empty, has-single}
use Rattle.regular_model.specs.Regular.{regular}
use Rattle.regular_model.specs.Values.{no_sets}
use Rattle.regular_model.specs.Blocks.{Frame, Sets, Ready, Refreshed}
use Rattle.regular_model.proofs.Values.{no_sets_small}
use Rattle.regular_model.proofs.Meaning.{regular_closed}

module _ {F : Frame} (r : ℕ) (root : r < F.m) (closed : F.scope r ≡ 65536) (mark : (j : ℕ) → j < F.m → T (has (F.scope j) 16)) where
  -- blocks of any sets will do; active is the mark of all nodes alone
  pub root_ready : (B : ℕ → ℕ) → Sets F B → Ready F B (suc r) 65536
  root_ready B S = record {
    below = root;
    small = S;
    active = λ v h t. let e = eqb→eq 16 v (subst T (has-single 16 v) t) in absurd (omega arith);
  }

  pub root_right : (B C : ℕ → ℕ) → T (regular (formula_at F.N r)) → Refreshed F B C (suc r) 0 65536 0
      → (x : ℕ) → x < 2 ^ F.L.n → C r ≡ mean F.L (formula_at F.N r) none x
  root_right B C P R x i =
      R.right no_sets (no_sets_small F.L.n) (λ v h t. let e = eqb→eq 16 v (subst T (has-single 16 v) t) in absurd (omega arith))
      (λ i l w. absurd (subst T (has_empty 16) (w 16 (omega arith) (mark i (omega (arith, root)))))) (λ l. absurd (not-suc-le-zero l)) r (omega arith)
      (λ s k t. subst (λ m. T (has m s)) closed t)
      ∙ sym (regular_closed F.L (formula_at F.N r) P x i)
