-- What rewriting replies, by the rows found and by the shape found; and when the plan is right.
-- By the rows of the table of refusals, in rising number.
use Prim.Native.Nat.{ℕ, ◌+◌, ◌≤◌, ◌<◌}
use mathlib.Core.Bool.{false}
use mathlib.Core.List.{List}
use mathlib.Core.Path.{◌≡◌, refl, sym, ap, ◌∙◌}
use native.Mathlib.Omega.{arith}
use Rattle.std.specs.Prelude.{Option, Some, None}
use borrow.Author.Tests.{le-leb, lt-leb}
use lib.ListN.{length}
use Rattle.case_model.specs.Bytes.{byte_at}
use Rattle.case_model.specs.Case.{Case, read, write}
use Rattle.case_model.specs.Limits.{most_nodes, standard}
use Rattle.case_model.specs.Replies.{Counts, Accepted, answers, refuses, replied, row13}
use Rattle.case_model.specs.Rewriting.{Change, nothing, swap, change, is_there, rewrite, rewriting}
use Rattle.case_model.specs.Rows.{sound, refusals}
use Rattle.case_model.specs.Valid.{ValidRule}
use Rattle.case_model.proofs.NineLaws.{Brings, the_fit, brings}
use Rattle.case_model.proofs.Valid.{accepted_valid}
use Rattle.case_model.proofs.Replying.{own_rows}
use Rattle.law_shapes.specs.Shapes.{placed, added, named, Does}
use Rattle.rewritten_file.specs.Plans.{renewed, Planned}
use Rattle.law_shapes.specs.declared.shapes.Shape.{Shape}
use Rattle.rewritten_file.specs.declared.plan.Plan.{Plan}
use Rattle.rewritten_file.proofs.Renewed.{placed_nodes}

-- no law does anything at a node beyond the rule
no_node : {c : Case} → ValidRule c → (law j : ℕ) → length c.nodes ≤ j → is_there (change c.nodes law j) ≡ false
no_node {c} valid law j h = go (change c.nodes law j) (brings valid j law)
  where
    go : (e : Change) → Brings c j e → is_there e ≡ false
    go nothing b = refl
    go (swap l g) b = absurd (omega (arith, (the_fit b).within))

module _ {f : List ℕ} {n : Counts} (t : Accepted standard f n) where
  rule : ValidRule (read f)
  rule = (accepted_valid standard f t.rows).rule

  pub nodes_few : n.nodes ≤ most_nodes
  nodes_few = omega (arith, t.nodes, rule.most)

  module _ (law j : ℕ) where
    -- ---- row 11
    rewriting-nothing : is_there (change (read f).nodes law j) ≡ false → (room : ℕ) → rewriting f law j room ≡ refuses 11 0
    unfolding rewriting
    rewriting-nothing e room = own_rows standard f _ _ t.rows ∙ rw e

    pub rewriting_beyond : n.nodes ≤ j → (room : ℕ) → rewriting f law j room ≡ refuses 11 0
    rewriting_beyond h = rewriting-nothing (no_node rule law j (omega (arith, t.nodes)))

    module _ (h : j < n.nodes) {r : Option Shape} (does : Does j r (change (read f).nodes law j)) where
      pub rewriting_nowhere : r ≡ None → (room : ℕ) → rewriting f law j room ≡ refuses 11 0
      rewriting_nowhere e = rewriting-nothing (ap is_there (sym does) ∙ rw e)

      module _ (s : Shape) (there : r ≡ Some s) where
        pub brought : change (read f).nodes law j ≡ swap (placed s) (named j s)
        brought = sym does ∙ rw there

        -- how many nodes there are then
        pub count : length (rewrite (read f) j (swap (placed s) (named j s))).nodes ≡ n.nodes + added s
        count = omega (arith, t.nodes, placed_nodes (read f) j s (named j s) (omega (arith, t.nodes)))

        -- ---- row 12
        pub rewriting_many : most_nodes < n.nodes + added s → (room : ℕ) → rewriting f law j room ≡ refuses 12 0
        unfolding rewriting
        rewriting_many k room =
            own_rows standard f _ _ t.rows
            ∙ rw (brought, lt-leb (length (rewrite (read f) j (swap (placed s) (named j s))).nodes) most_nodes (omega (arith, count)))

        -- ---- the plan
        abbrev pub planned : ((i : ℕ) → byte_at f i < 256) → (m : ℕ) → m ≡ n.nodes + added s → m ≤ most_nodes
            → Planned f (record { shape = s; j = j; nodes = m })
        planned bytes m e few = record { accepted = t.rows; bytes = bytes; law = law; is = brought; nodes = e ∙ sym count; few = few }

-- ---- row 13, or the new file
module _ (f : List ℕ) (p : Plan) (ok : refusals standard f ≡ sound) (law : ℕ) (is : change (read f).nodes law p.j ≡ swap (placed p.shape) (named p.j p.shape))
    (nodes : p.nodes ≡ length (renewed f p).nodes) (few : p.nodes ≤ most_nodes) (room : ℕ) where
  -- the rows before it find nothing
  only_room : rewriting f law p.j room ≡ replied (row13 (write (renewed f p)) room) (write (renewed f p))
  unfolding rewriting
  only_room = own_rows standard f _ _ ok ∙ rw (is, le-leb (length (renewed f p).nodes) most_nodes (omega (arith, nodes, few)))

  pub rewriting_short : room < length (write (renewed f p)) → rewriting f law p.j room ≡ refuses 13 0
  rewriting_short k = only_room ∙ rw (lt-leb (length (write (renewed f p))) room k)

  pub rewriting-fits : length (write (renewed f p)) ≤ room → rewriting f law p.j room ≡ answers (write (renewed f p))
  rewriting-fits k = only_room ∙ rw (le-leb (length (write (renewed f p))) room k)
