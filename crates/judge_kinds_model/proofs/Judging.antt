-- What judging by a table replies: refusal 15, refusal 1 of a file whose pairs do not hold, or judging's reply of the exchanged file; and that our own
-- numbers change nothing, and a table and its inverse undo each other.
use Prim.Native.Nat.{ℕ, ◌+◌, ◌*◌, ◌/◌, ◌<◌}
use mathlib.Core.Bool.{Bool, true, false, not}
use mathlib.Core.List.{List}
use mathlib.Core.Path.{◌≡◌, refl, ap, ◌∙◌}
use native.Mathlib.Omega.{arith}
use borrow.Author.Tests.{le-ltb}
use lib.Dec.{eqb, ltb}
use lib.ListN.{length, length-map, get_or-map}
use Rattle.flc.specs.Sets.{for_some}
use Rattle.case_model.specs.Bytes.{list_of, byte_at, size, pairs_hold}
use Rattle.case_model.specs.Case.{Case, read, at}
use Rattle.case_model.specs.Kinds.{kinds, node_holds}
use Rattle.case_model.specs.Limits.{standard}
use Rattle.case_model.specs.Rows.{refusals, node_wrong}
use Rattle.case_model.specs.Replies.{refuses, replying}
use Rattle.case_model.specs.Judging.{judging}
use Rattle.case_model.proofs.Lists.{list_of_ext, list_of-get_or}
use Rattle.judge_kinds_model.specs.KindTables.{is_table, stands_for, identity, inverse}
use Rattle.judge_kinds_model.specs.Exchange.{is_kind, exchanged_byte, exchanged, exchanged_node, exchanged_case}
use Rattle.judge_kinds_model.specs.Judging.{judging_kinds, AboveWrong, OwnNumbers, Inverse}
use Rattle.judge_kinds_model.proofs.KindTables as tables
use Rattle.judge_kinds_model.proofs.Exchange.{exchanged_kind, exchanged_other, unlaid, laid}
use Rattle.judge_kinds_model.proofs.SameLayout.{long, byte_at_lem, offsets, sizes, same_layout}

-- ---- the reply
module _ (t f : List ℕ) (x words : ℕ) where
  pub other_table : is_table t ≡ false → judging_kinds t f x words ≡ refuses 15 0
  unfolding judging_kinds
  other_table e = rw e

  pub by_table : is_table t ≡ true → judging_kinds t f x words ≡ judging (exchanged t f) x words
  unfolding judging_kinds
  by_table e = rw e

  -- clause 13.3: nothing is exchanged where row 1 refuses, and so it does
  pub unlaid_refused : is_table t ≡ true → pairs_hold standard f ≡ false → judging_kinds t f x words ≡ refuses 1 0
  unfolding judging replying refusals
  unlaid_refused ok e = by_table ok ∙ rw (unlaid t f e, e)

-- ---- a byte past the table
-- clause 13.7
pub above_wrong : (t f : List ℕ) → is_table t ≡ true → pairs_hold standard f ≡ true → AboveWrong t f
above_wrong t f ok e j h above =
    let c : Case = read f in
    let node = at c.nodes j in
    let there : j < length (exchanged_case t c).nodes = omega (arith, length-map c.nodes (exchanged_node t)) in
    let is : at (exchanged_case t c).nodes j ≡ exchanged_node t node =
    tables.get_or_there (exchanged_case t c).nodes j (0, 0, 0) _ there ∙ get_or-map (exchanged_node t) c.nodes j (0, 0, 0) in
    let no : ltb (stands_for t node.0) (length kinds) ≡ false = rw (tables.table_above t ok node.0 above) (le-ltb node.0 (length kinds) above) in
    ap (λ c. node_wrong c j) (same_layout t f e).case ∙ ap (λ x. not (node_holds j x)) is ∙ rw no

-- ---- exchanges that change nothing, and that undo each other
-- every byte stands for itself
unchanged : (t f : List ℕ) → ((k : ℕ) → stands_for t k ≡ k) → exchanged t f ≡ f
unchanged t f same = go (pairs_hold standard f) refl
  where
    byte : (m p : ℕ) (b : Bool) → is_kind f m p ≡ b → exchanged_byte t f m p ≡ byte_at f p
    byte m p true e = exchanged_kind t f m p e ∙ same (byte_at f p)
    byte m p false e = exchanged_other t f m p e

    go : (b : Bool) → pairs_hold standard f ≡ b → exchanged t f ≡ f
    go true e = laid t f e ∙ list_of_ext (length f) _ (byte_at f) (λ i h. byte (size f 2 / 3) i _ refl) ∙ list_of-get_or f 0
    go false e = unlaid t f e

-- what one exchanges the other exchanges back: in the exchanged file the nodes are where they were
module _ (t u f : List ℕ) (back : (k : ℕ) → stands_for u (stands_for t k) ≡ k) where
  abbrev g : List ℕ
  g = exchanged t f

  module _ (e : pairs_hold standard f ≡ true) where
    place : (p : ℕ) → is_kind g (size g 2 / 3) p ≡ is_kind f (size f 2 / 3) p
    unfolding is_kind
    place p = λ z. for_some (sizes t f e 2 (omega arith) z / 3) (λ j. eqb p (offsets t f e 2 (omega arith) z + 3 * j))

    byte : (p : ℕ) (b : Bool) → is_kind f (size f 2 / 3) p ≡ b → exchanged_byte u g (size g 2 / 3) p ≡ byte_at f p
    byte p true k =
        exchanged_kind u g (size g 2 / 3) p (place p ∙ k) ∙ ap (stands_for u) (byte_at_lem t f e p ∙ exchanged_kind t f (size f 2 / 3) p k) ∙ back (byte_at f p)
    byte p false k = exchanged_other u g (size g 2 / 3) p (place p ∙ k) ∙ byte_at_lem t f e p ∙ exchanged_other t f (size f 2 / 3) p k

    undone_laid : exchanged u g ≡ f
    undone_laid =
        laid u g (same_layout t f e).pairs ∙ ap (λ n. list_of n (exchanged_byte u g (size g 2 / 3))) (long t f e)
        ∙ list_of_ext (length f) _ (byte_at f) (λ p h. byte p _ refl) ∙ list_of-get_or f 0

  undone : exchanged u g ≡ f
  undone = go (pairs_hold standard f) refl
    where
      go : (b : Bool) → pairs_hold standard f ≡ b → exchanged u g ≡ f
      go true e = undone_laid e
      go false e = ap (exchanged u) (unlaid t f e) ∙ unlaid u f e

-- clause 13.8
pub own_numbers : OwnNumbers
own_numbers f x words =
    by_table identity f x words tables.identity-table ∙ ap (λ g. judging g x words) (unchanged identity f tables.stands_identity)

-- clause 13.9
pub inverses : (t : List ℕ) → is_table t ≡ true → Inverse t
inverses t ok = record {
  table = tables.inverse-table t ok;
  back = λ f. undone t (inverse t) f (tables.back t ok);
  forth = λ f. undone (inverse t) t f (tables.forth t ok);
  judged = λ f x words.
      by_table t (exchanged (inverse t) f) x words ok ∙ ap (λ g. judging g x words) (undone (inverse t) t f (tables.forth t ok));
}
