-- What kinds 6, 7, 13 and 14 mean, as one fact: some step, or all, by an action of the group that the node stands for leads into the set.
-- By the table's lines, and what a modality says (flc's Groups).
use Prim.Native.Nat.{ℕ, ◌<◌}
use mathlib.Core.Bool.{Bool, true, false}
use mathlib.Core.Logic.{◌↔◌}
use mathlib.Core.Path.{◌≡◌, refl}
use lib.Dec.{T}
use Rattle.flc.specs.Sets.{has, singleton}
use Rattle.flc.specs.Formula.{Table, Formula, Env, mean}
use Rattle.flc.specs.Nodes.{tree}
use Rattle.flc.specs.Modalities.{Leads}
use Rattle.flc.proofs.Groups.{modal_iff}
use Rattle.case_model.specs.Kinds.{kinds, kind_at, node_of}
use Rattle.case_model.specs.ModalKinds.{Modal, some_by_action, all_by_action, some_by_group, all_by_group}

-- whatever stands in the second operand, in the other nodes and for the variables
pub modal_kinds : {k a : ℕ} {d : Bool} {g : ℕ} → Modal k a d g → (b : ℕ) (L : Table) (F : ℕ → Formula) (ρ : Env) (x s : ℕ) → s < L.n
    → T (has (mean L (tree (node_of (k, a, b)) F) ρ x) s) ↔ Leads d L g x s
unfolding kind_at kinds mean
modal_kinds (some_by_action a) b L F ρ x s h = modal_iff true L (singleton a) x s h
modal_kinds (all_by_action a) b L F ρ x s h = modal_iff false L (singleton a) x s h
modal_kinds (some_by_group g) b L F ρ x s h = modal_iff true L g x s h
modal_kinds (all_by_group g) b L F ρ x s h = modal_iff false L g x s h

-- the group of one action is that action's kind
pub one_action : (a b : ℕ) → (node_of (13, singleton a, b) ≡ node_of (6, a, b)) × (node_of (14, singleton a, b) ≡ node_of (7, a, b))
unfolding kind_at kinds
one_action a b = (refl, refl)
