-- The state table in a plan that has the rule: its sets are those of the case.
use Prim.Native.Nat.{ℕ, ◌*◌, ◌%◌, ◌^◌, ◌≤◌, ◌<◌}
use mathlib.Core.Bool.{true}
use mathlib.Core.List.{List}
use mathlib.Core.Path.{◌≡◌, sym, ap, ◌∙◌}
use native.Mathlib.Nat.{one-mul, mod-eq_of_lt}
use native.Mathlib.Omega.{arith}
use lib.ListN.{length, get_or}
use lib.Pow.{pow-lt}
use Rattle.flc.proofs.Masks.{set_of_lt}
use Rattle.case_model.specs.Limits.{standard, propositions}
use Rattle.case_model.specs.Case.{Case}
use Rattle.case_model.specs.Valid.{Valid}
use Rattle.case_reader.specs.StepRows.{steps_read, StepRows}
use Rattle.case_plan.specs.declared.plans.Plan as code
use Rattle.case_plan.specs.Plans.{Plan, decoded, Planned}
use Rattle.case_plan.specs.Parts.{labelled, WithTable}
use Rattle.case_plan.proofs.Drawing.{table_is, source_small}

-- a shift by at most 16 loses nothing
pub power : (n : ℕ) → n ≤ 16 → (1 * 2 ^ n) % 2 ^ 64 ≡ 2 ^ n
power n h = rw one-mul (mod-eq_of_lt (pow-lt {i = n} {j = 64} (omega arith)))

module _ {c : Case} (valid : Valid standard c) (bytes : (s : ℕ) → get_or c.labels s 0 < 256) {n s : ℕ} (en : n ≡ length c.labels) (es : s ≡ 2 ^ n)
    {q : code.Plan} {sets rows : List ℕ} (W : WithTable c s sets rows q) (D : (i : ℕ) → i < propositions → get_or sets i 0 ≡ labelled c n i)
    (R : StepRows (steps_read true c.steps) rows) where
  abbrev p : Plan
  p = decoded q

  states : p.states ≡ length c.labels
  states = W.planned.states

  size_is : p.size ≡ 2 ^ length c.labels
  size_is = W.size ∙ es ∙ ap (λ n. 2 ^ n) en

  props : (i : ℕ) → i < propositions → p.props i ≡ labelled c (length c.labels) i
  props i h = ap (λ l. get_or l i 0) W.props ∙ D i h ∙ ap (λ n. labelled c n i) en

  sources : (k : ℕ) → k < 128 → p.sources k ≡ get_or rows k 0
  sources k h = ap (λ l. get_or l k 0) W.sources

  pub planned : Planned c p
  planned = record {
    sound = record {
      sized = record {
        few = rw states valid.table.few;
        size = size_is ∙ ap (λ n. 2 ^ n) (sym states);
        props = λ i h. rw (props i h, size_is) (set_of_lt (length c.labels) _);
        sources = λ k h. rw size_is (source_small valid.table bytes p states props R sources k h);
      };
      limit = W.limit ∙ ap (λ k. p.states * k) (sym W.size);
      rule = W.planned.sound;
    };
    table = table_is valid.table bytes p states props R sources;
    nodes = W.planned.nodes;
    root = W.planned.root;
    count = W.planned.count;
  }
