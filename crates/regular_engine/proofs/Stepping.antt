-- The steps of `refresh` and `compute` on the byte area: what each call may ask, and what its answer is for its caller. The laws on blocks of
-- sets are those of regular_model; here are masks, the rule, the sizes of a node and its block, and then the two functions in turn.
use Prim.Native.Nat.{ℕ, suc, ◌+◌, ◌-◌, ◌*◌, ◌^◌, ◌≤◌, ◌<◌}
use mathlib.Core.Bool.{Bool}
use mathlib.Core.List.{List}
use mathlib.Core.Path.{◌≡◌, refl, sym, ap, ◌∙◌, subst}
use native.Mathlib.Decide.{ℕ_discrete}
use native.Mathlib.Nat.{le_trans}
use native.Mathlib.Omega.{arith}
use lib.Bits.{bit_or, or_lt}
use lib.Dec.{T, eqb_refl}
use lib.ListN.{length}
use lib.Pow.{pow_mono}
use Rattle.std.specs.Prelude.{Option}
use Rattle.flc.specs.Sets.{has}
use Rattle.flc.specs.Formula.{free}
use Rattle.flc.specs.Nodes.{bind, tree, formula_at}
use Rattle.flc.proofs.Tests.{bool_ext, either_left, either_right, either_use}
use Rattle.flc.proofs.Masks.{has_or, set_ext}
use Rattle.flc.proofs.Unfolding.{formula_at_node}
use Rattle.case_model.specs.Limits.{most_nodes}
use Rattle.case_model.specs.Case.{read, table}
use Rattle.case_plan.specs.declared.moves.Direction.{Direction}
use Rattle.case_plan.specs.Plans.{Plan, decoded, nodes_of, SoundRule}
use Rattle.case_plan.proofs.Scopes.{node_fits, node_lower, scope_frees, scope_names, scope_body, scope_small}
use Rattle.regular_model.specs.Blocks.{Frame, Within, Refreshed, made}
use Rattle.regular_model.specs.HeldSets.{blocks, Stored}
use Rattle.regular_model.proofs.Framed.{Framed}
use Rattle.regular_model.proofs.Blocks as theory
use Rattle.regular_model.proofs.SetBytes.{stored_placed}
use Rattle.regular_sets.specs.Views.{frame, Fillable}
use Rattle.regular_sets.specs.declared.nodes.Rule.{Rule}
use Rattle.regular_engine.specs.Computing.{moved, Area, Refreshable, RefreshedBy, Computable, ComputedBy}

-- ---- masks
or_within : (F : Frame) (j act : ℕ) → bit_or (F.scope j) act ≡ act → Within F j act
or_within F j act e s k t = subst (λ x. T (has x s)) e (subst T (sym (has_or (F.scope j) act s)) (either_left _ _ t))

within_or : (u act : ℕ) → u < 2 ^ 18 → act < 2 ^ 18 → ((s : ℕ) → s < 18 → T (has u s) → T (has act s)) → bit_or u act ≡ act
within_or u act i j h = set_ext 18 _ _ (or_lt 18 u act i j) j (λ s k.
    has_or u act s ∙ bool_ext _ _ (either_use _ _ (h s k) (λ t. t)) (either_right _ _))

-- ---- the rule
pub framed : (f : List ℕ) {p : Plan} → SoundRule p → Framed (frame (read f) p)
framed f S = record {
  fits = node_fits S;
  homes = S.homes;
  frees = scope_frees S;
  names = scope_names S;
  body = scope_body S;
}

-- the states of the plan are those of the table, which are few
pub record Stated (f : List ℕ) (p : Plan) : Type 0 where
  pub states : p.states ≡ length (read f).labels
  pub few : length (read f).labels ≤ 256

pub stated : (r : Rule) → Stated r.drive.file.now (decoded r.plan.now)
stated r = record { states = r.same_states ∙ r.drive.counted; few = r.drive.viewed.table.few }

-- a set of few states is one of 256
pub few_sets : {f : List ℕ} {p : Plan} → Stated f p → (x : ℕ) → x < 2 ^ length (read f).labels → x < 2 ^ 256
few_sets {f} S x h = le_trans h (pow_mono {i = length (read f).labels} {j = 256} S.few)

pub not_zero : (k : ℕ) → (k ≡ 0 → ⊥) → k ≡ suc (k - 1)
not_zero k n = elim (ℕ_discrete k 0) [ yes e ↦ absurd (n e) | no e ↦ omega arith ]

-- where the nodes below the last one, k - 1, are computed, from the area w to y; u is what the last one depends on
pub record Lowered (f : List ℕ) (p : Plan) (w y : List ℕ) (k old act : ℕ) (grown : Option Direction) (u : ℕ) : Type 0 where
  pub refreshable : Refreshable f p w k old act
  pub some : k ≡ 0 → ⊥
  pub lower : RefreshedBy f p w y (k - 1) old act grown
  pub scope : u ≡ p.scopes (k - 1)

module _ {f : List ℕ} {p : Plan} where
  -- ---- a node and its block
  pub node_small : {w : List ℕ} {j act : ℕ} → Area f p w (suc j) act → j < most_nodes
  node_small A = omega (arith, A.ready.below, A.rule.most)

  pub block_room : {w : List ℕ} {j act : ℕ} → Area f p w (suc j) act → 64 * j + 32 ≤ length w
  block_room A = omega (arith, A.ready.below, A.room)

  -- ---- refresh
  pub refresh_none : {w : List ℕ} {k : ℕ} (old act : ℕ) (grown : Option Direction) → Refreshable f p w k old act → k ≡ 0 → RefreshedBy f p w w k old act grown
  refresh_none {w} {k} old act grown R e = record {
    long = refl;
    is = subst (λ k. Refreshed (frame (read f) p) (blocks w) (blocks w) k old act (moved grown)) (sym e)
        (theory.refresh_none (frame (read f) p) (blocks w) old act (moved grown) R.area.ready.small);
  }

  -- the last node is k - 1
  module _ {w : List ℕ} {k old act : ℕ} (R : Refreshable f p w k old act) (some : k ≡ 0 → ⊥) where
    pub last_area : Area f p w (suc (k - 1)) act
    last_area = subst (λ k. Area f p w k act) (not_zero k some) R.area

    pub last_scope : p.scopes (k - 1) < 2 ^ 18
    last_scope = scope_small R.area.rule (k - 1) last_area.ready.below

    pub refresh_lower : Refreshable f p w (k - 1) old act
    refresh_lower = record {
      area = record { rule = R.area.rule; room = R.area.room; mask = R.area.mask; ready = theory.ready_down last_area.ready };
      small = R.small;
    }

  module _ {w y : List ℕ} {k old act : ℕ} {grown : Option Direction} {u : ℕ} (L : Lowered f p w y k old act grown u) where
    abbrev j : ℕ
    j = k - 1

    last : Area f p w (suc j) act
    last = last_area L.refreshable L.some

    up : {v : List ℕ} → length v ≡ length w → Refreshed (frame (read f) p) (blocks w) (blocks v) (suc j) old act (moved grown)
        → RefreshedBy f p w v k old act grown
    up {v} l h = record {
      long = l;
      is = subst (λ k. Refreshed (frame (read f) p) (blocks w) (blocks v) k old act (moved grown)) (sym (not_zero k L.some)) h;
    }

    within : (z : ℕ) → bit_or u z ≡ z → Within (frame (read f) p) j z
    within z q = or_within (frame (read f) p) j z (ap (λ u. bit_or u z) (sym L.scope) ∙ q)

    pub skip_out : (bit_or u act ≡ act → ⊥) → RefreshedBy f p w y k old act grown
    skip_out n = up L.lower.long (theory.skip_out L.lower.is (λ h.
        n (ap (λ u. bit_or u act) L.scope ∙ within_or (p.scopes j) act (last_scope L.refreshable L.some) last.mask h)))

    pub skip_old : bit_or u old ≡ old → RefreshedBy f p w y k old act grown
    skip_old q = up L.lower.long (theory.skip_old L.lower.is (within old q))

    pub computable : bit_or u act ≡ act → Computable f p y (k - 1) act
    computable q = record {
      area = record {
        rule = last.rule;
        room = rw L.lower.long last.room;
        mask = last.mask;
        ready = record { below = last.ready.below; small = L.lower.is.kept.small; active = last.ready.active };
      };
      within = within act q;
    }

    pub one_more : {v : List ℕ} → bit_or u act ≡ act → ComputedBy f p y v (k - 1) act grown → RefreshedBy f p w v k old act grown
    one_more q C = up (C.long ∙ L.lower.long) (theory.one_more L.lower.is last.ready (within act q) C.is)

  -- ---- compute
  module _ {w : List ℕ} {j act : ℕ} (C : Computable f p w j act) where
    there : j < p.count
    there = C.area.ready.below

    S : SoundRule p
    S = C.area.rule

    pub fillable : ((d : Bool) (v b : ℕ) → nodes_of p j ≡ bind d v b → ⊥) → Fillable f p w j
    fillable plain = record {
      rule = S;
      room = C.area.room;
      sets = C.area.ready.small;
      there = there;
      plain = plain;
      bound = λ v e.
          let q = formula_at_node (nodes_of p) j (node_lower S j there) ∙ ap (λ n. tree n (formula_at (nodes_of p))) e in
          let (h, t) = scope_frees S j v there (subst (λ φ. T (free v φ)) (sym q) (unfold free in eqb_refl v)) in
          C.area.ready.active v h (C.within v (omega arith) t);
    }

    pub computed_plain : {v : List ℕ} → Stated f p → (grown : Option Direction) → ((d : Bool) (v b : ℕ) → nodes_of p j ≡ bind d v b → ⊥)
        → Stored w v (64 * j) (made (frame (read f) p) (nodes_of p j) (blocks w)) → ComputedBy f p w v j act grown
    unfolding table
    computed_plain {v} T grown plain s =
        let small : made (frame (read f) p) (nodes_of p j) (blocks w) < 2 ^ length (read f).labels =
        theory.made_small (framed f S) (blocks w) C.area.ready.small j there in
        record {
          long = s.long;
          is = theory.computed_plain (framed f S) act (moved grown) C.area.ready.small there plain C.within (stored_placed j _ (few_sets T _ small) s);
        }
