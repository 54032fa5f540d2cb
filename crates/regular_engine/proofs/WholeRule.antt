-- The whole rule: from cleared blocks, with nothing active but the mark of all nodes, the root's block becomes the meaning on all states.
use Prim.Native.Nat.{ℕ, suc, ◌+◌, ◌*◌, ◌/◌, ◌^◌, ◌<◌}
use mathlib.Core.Bool.{true}
use mathlib.Core.List.{List}
use mathlib.Core.Path.{◌≡◌, sym, ap, ap₂, ◌∙◌, subst, subst₂}
use native.Mathlib.Omega.{arith}
use lib.Dec.{T}
use lib.ListN.{length, get_or}
use lib.Pow.{pow_pos}
use Rattle.std.specs.Prelude.{None}
use Rattle.flc.specs.Formula.{mean, none}
use Rattle.flc.specs.Nodes.{formula_at}
use Rattle.flc.proofs.Masks.{has_empty, set_of_lt}
use Rattle.case_model.specs.Areas.{Filled}
use Rattle.case_model.specs.Bytes.{size, section}
use Rattle.case_model.specs.Case.{read, triple_at, table, rule}
use Rattle.case_model.specs.Rows.{sound, refusals}
use Rattle.case_model.specs.Run.{all_states}
use Rattle.case_model.proofs.Filling.{zeroed}
use Rattle.case_model.proofs.Lists.{length-list_of, zeros}
use Rattle.case_model.proofs.Sections.{within}
use Rattle.case_model.proofs.Valid.{accepted_pairs, steps_whole}
use Rattle.case_plan.specs.Plans.{Plan, nodes_of, RulePlanned}
use Rattle.case_plan.proofs.Scopes.{scope_root, scope_mark}
use Rattle.regular_model.specs.Judging.{large}
use Rattle.regular_model.specs.Regular.{regular}
use Rattle.regular_model.specs.Blocks.{Sets, Ready}
use Rattle.regular_model.specs.SetBytes.{byte_of}
use Rattle.regular_model.specs.HeldSets.{blocks}
use Rattle.regular_model.proofs.SetBytes.{held_set, byte_ext}
use Rattle.regular_model.proofs.Root.{root_ready, root_right}
use Rattle.regular_sets.specs.Views.{StepsInside, frame}
use Rattle.regular_engine.specs.Computing.{Refreshable, RefreshedBy, Runnable, Ran}

-- the section of steps is of whole triples and ends within the file
pub steps_inside : (f : List ℕ) → refusals large f ≡ sound → StepsInside f
steps_inside f ok =
    let many = length-list_of (size f 1 / 3) (λ i. triple_at (section f 1) (3 * i)) in
    omega (arith, many, steps_whole large f ok, within large f (accepted_pairs large f ok) 1 (omega arith))

-- every byte of a cleared area is 0
zero_at : {w v : List ℕ} → Filled w v 0 (length w) (λ _. 0) → (k : ℕ) → get_or v k 0 ≡ 0
zero_at {w} {v} S k = ap (λ v. get_or v k 0) (zeroed S) ∙ zeros (length w) k

zero_byte : (i : ℕ) → 0 ≡ byte_of 0 i
zero_byte i = byte_ext 0 i 0 (omega arith) (λ t l. has_empty t ∙ sym (has_empty _))

module _ {f : List ℕ} {p : Plan} {w v : List ℕ} (R : Runnable f (length w)) (P : RulePlanned (read f) p) (Z : Filled w v 0 (length w) (λ _. 0)) where
  cleared_sets : Sets (frame (read f) p) (blocks v)
  cleared_sets i = subst (λ x. x < 2 ^ (table (read f)).n)
      (sym (held_set 0 v (64 * i) (pow_pos 256) (λ k h. zero_at Z (64 * i + k) ∙ zero_byte k))) (pow_pos (table (read f)).n)

  pub run_refreshable : Refreshable f p v (p.root + 1) 0 65536
  run_refreshable =
      let e : suc p.root ≡ p.root + 1 = omega arith in
      record {
        area = record {
          rule = P.sound;
          room = omega (arith, R.room, P.count, Z.long);
          mask = omega arith;
          ready = subst (λ k. Ready (frame (read f) p) (blocks v) k 65536) e
              (root_ready p.root P.sound.root (scope_root P.sound) (scope_mark P.sound) (blocks v) cleared_sets);
        };
        small = omega arith;
      }

  pub ran : {y : List ℕ} → RefreshedBy f p v y (p.root + 1) 0 65536 None → Ran f w y (64 * p.root)
  unfolding rule
  ran {y} S =
      let e : p.root + 1 ≡ suc p.root = omega arith in
      let is = (subst (λ k. RefreshedBy f p v y k 0 65536 None) e S).is in
      let small : all_states (read f) < 2 ^ (table (read f)).n = unfold table in set_of_lt (length (read f).labels) (λ s. true) in
      let profile : T (regular (formula_at (nodes_of p) p.root)) =
      subst₂ (λ N r. T (regular (formula_at N r))) (sym P.nodes) (sym P.root) R.profile in
      record {
        long = S.long ∙ Z.long;
        there = omega (arith, S.long, Z.long, R.room, P.count, P.sound.root);
        is = root_right p.root P.sound.root (scope_root P.sound) (scope_mark P.sound) (blocks v) (blocks y) profile is (all_states (read f)) small
            ∙ ap₂ (λ N r. mean (table (read f)) (formula_at N r) none (all_states (read f))) P.nodes P.root;
      }
