-- Every reply fits in its word: a refusal's place, counts, a verdict's set and rounds, the length of a new file.
-- Places are small in a file of bytes; rounds are found by a search of n * 2 ^ n numbers, n at most 16; a new file is accepted, and so not long.
use Prim.Native.Nat.{ℕ, suc, ◌*◌, ◌^◌, ◌≤◌, ◌<◌}
use mathlib.Core.Bool.{Bool, true, false}
use mathlib.Core.List.{List, [], ◌∷◌}
use mathlib.Core.Path.{◌≡◌, refl, ap, ◌∙◌}
use native.Mathlib.Omega.{arith}
use native.Mathlib.Nat.{mul-le-mul}
use borrow.Author.Tests.{ltb-true}
use lib.ListN.{length}
use lib.Pow.{pow_mono}
use Rattle.flc.specs.Functions.{Fun, agree, approximant, rounds}
use Rattle.flc.specs.Formula.{Table, Formula, put, mean, none}
use Rattle.flc.specs.Nodes.{Node, leaf, two, bind, lower, rounds_of, rounds_at}
use Rattle.flc.proofs.Tests.{first_le}
use Rattle.flc.proofs.Meanings.{none_good, mean_small}
use Rattle.case_model.specs.Bytes.{byte_at}
use Rattle.case_model.specs.Case.{Case, read, table, node_at, rule}
use Rattle.case_model.specs.Rows.{Found, sound, refused, ◌or_else◌, refusals}
use Rattle.case_model.specs.Limits.{Limits, standard}
use Rattle.case_model.specs.Replies.{answers, replied, replying, vetting, row13, counted}
use Rattle.case_model.specs.Judging.{verdict, judging}
use Rattle.case_model.specs.Merging.{lowest_alike, classes, classing, merging}
use Rattle.case_model.specs.Rewriting.{rewriting}
use Rattle.case_model.specs.Book.{Edit, merges, rewrites, reply, book}
use Rattle.case_model.proofs.Lists.{length-list_of}
use Rattle.case_model.proofs.Sections.{within_longest, left_sound, unless_sound}
use Rattle.case_model.proofs.Valid.{accepted_pairs, accepted_valid}
use Rattle.case_model.proofs.Replying.{own_rows, counted_too}
use Rattle.case_model.proofs.Places.{Placed, somewhere, then, at_zero, refusals-placed}
use Rattle.case_model.proofs.Demand.{book_stands}
use Rattle.judge_kinds_model.specs.KindTables.{is_table}
use Rattle.judge_kinds_model.specs.Exchange.{exchanged}
use Rattle.judge_kinds_model.specs.Judging.{judging_kinds}
use Rattle.judge_kinds_model.proofs.SameLayout.{exchanged_small}
use Rattle.judge_kinds_model.proofs.Judging.{other_table, by_table}
use Rattle.regular_model.specs.Judging.{large, answer, judging_regular}
use Rattle.regular_model.proofs.Judging.{exact}
use Rattle.hoidrul.specs.Packing.{Fits, Few, Brief, Short}

-- a reply fits where the entry's own rows have small places, and its answer, if there is one, fits
module _ {A : Type 0} (P : A → Type 0) (most : Limits) (f : List ℕ) (bytes : (i : ℕ) → byte_at f i < 256) where
  replying-fits : (own : Case → Found) (answer : Case → A) → Placed (own (read f))
      → (refusals most f ≡ sound → own (read f) ≡ sound → P (answer (read f))) → Fits P (replying most f own answer)
  unfolding replying
  replying-fits own answer h k = go (refusals most f) (own (read f)) (refusals-placed most f bytes) h k
    where
      go : (r q : Found) → Placed r → Placed q → (r ≡ sound → q ≡ sound → P (answer (read f))) → Fits P (replied (r or_else q) (answer (read f)))
      go sound sound p h k = k refl refl
      go sound (refused n at) p (somewhere h) k = h
      go (refused n at) q (somewhere p) h k = p

rounds_small : (L : Table) (x : Node) (φ : ℕ → Formula) → rounds_of L x φ ≤ L.n * 2 ^ L.n
unfolding rounds_of rounds
rounds_small L (leaf p) φ = omega arith
rounds_small L (two o a b) φ = omega arith
rounds_small L (bind d v b) φ =
    let X : ℕ → Fun = approximant d L.n (λ f. mean L (φ b) (put none v f)) in
    let steady : ℕ → Bool = λ k. agree L.n (X k) (X (suc k)) in
    omega (arith, first_le steady 0 (L.n * 2 ^ L.n))

most : (n : ℕ) → n ≤ 16 → n * 2 ^ n ≤ 1048576
most n h = mul-le-mul h (pow_mono {i = n} {j = 16} h)

-- what an edit answers with is accepted, by the book that has this edit alone
edit_short : (f : List ℕ) (e : Edit) (new : List ℕ) → refusals standard f ≡ sound → reply f e ≡ answers new → length new ≤ standard.longest
unfolding book
edit_short f e new ok is =
    let accepted : refusals standard new ≡ sound = rw is at (book_stands f ok (e ∷ [])).accepted in
    within_longest standard new (accepted_pairs standard new accepted)

-- the entries' own rows have place 0
ruleset placed = (then, at_zero)

module _ (f : List ℕ) (bytes : (i : ℕ) → byte_at f i < 256) where
  abbrev c : Case
  c = read f

  abbrev n : ℕ
  n = length c.labels

  -- a count of bytes fits if the bytes are few
  shortly : (most : Limits) (own : Case → Found) (new : Case → List ℕ) → Placed (own c)
      → (refusals most f ≡ sound → own c ≡ sound → length (new c) ≤ standard.longest) → Fits Short (counted (replying most f own new))
  shortly most own new h few =
      rw (counted_too most f own new) (replying-fits Short most f bytes own (λ c. length (new c)) h (λ ok s. omega (arith, few ok s)))

  pub vetting-fits : (k : ℕ) → Fits Few (vetting f k)
  unfolding vetting
  vetting-fits k = replying-fits Few standard f bytes _ _ (search placed) (λ ok s.
      let v = accepted_valid standard f ok in (omega (arith, v.table.few), omega (arith, v.rule.most)))

  pub judging-fits : (x words : ℕ) → Fits Brief (judging f x words)
  unfolding judging verdict rounds_at table
  judging-fits x words =
      replying-fits Brief standard f bytes _ _ (search placed depth 8) (λ ok s.
      let v = accepted_valid standard f ok in
      let inside : x < 2 ^ n = ltb-true _ _ (unless_sound _ 8 0 (left_sound _ _ s)) in (
        omega (arith, mean_small (table c) (rule c) none (none_good n) x inside, pow_mono {i = n} {j = 16} v.table.few),
        omega (arith, rounds_small (table c) (node_at c c.root) (lower (node_at c) c.root), most n v.table.few),
      ))

  pub classing-fits : (room : ℕ) → Fits Short (counted (classing f room))
  unfolding classing
  classing-fits room =
      shortly standard (λ c. row13 (classes c) room) classes (search placed) (λ ok s.
      omega (arith, length-list_of n (lowest_alike c), (accepted_valid standard f ok).table.few))

  -- an edit's answer is an accepted file
  edit-fits : (e : Edit) (own : Case → Found) (new : Case → List ℕ) → reply f e ≡ replying standard f own new → Placed (own c)
      → Fits Short (counted (reply f e))
  edit-fits e own new is h =
      rw is (shortly standard own new h (λ ok s. edit_short f e (new c) ok (is ∙ own_rows standard f own new ok ∙ ap (λ r. replied r (new c)) s)))

  pub merging-fits : (s t room : ℕ) → Fits Short (counted (merging f s t room))
  unfolding merging
  merging-fits s t room = edit-fits (merges s t room) _ _ refl (search placed depth 8)

  pub rewriting-fits : (law j room : ℕ) → Fits Short (counted (rewriting f law j room))
  unfolding rewriting
  rewriting-fits law j room = edit-fits (rewrites law j room) _ _ refl (search placed depth 8)

  pub regular-fits : (area room : ℕ) → Fits Short (counted (judging_regular f area room))
  unfolding judging_regular
  regular-fits area room = shortly large _ answer (search placed depth 8) (λ ok s. omega (arith, (exact c).long))

-- by a table of kinds: refusal 15 has place 0, and the exchanged file is of bytes too
pub judging-kinds-fits : (t f : List ℕ) → ((i : ℕ) → byte_at t i < 256) → ((i : ℕ) → byte_at f i < 256) → (x words : ℕ) → Fits Brief (judging_kinds t f x words)
judging-kinds-fits t f entries bytes x words = go (is_table t) refl
  where
    go : (b : Bool) → is_table t ≡ b → Fits Brief (judging_kinds t f x words)
    go true e = rw (by_table t f x words e) (judging-fits (exchanged t f) (exchanged_small t f entries bytes) x words)
    go false e = rw (other_table t f x words e) (omega arith)
