-- Demand 3 of the plain book: its file stays accepted, a state holds in the first case exactly if the state standing for it holds in the last, and so for all
-- start states together.
-- An accepted edit keeps all three, by what merging and rewriting keep of a valid case; a refused one changes nothing.
use Prim.Native.Nat.{ℕ, ◌≤◌, ◌<◌, min, max}
use mathlib.Core.Bool.{Bool, true}
use mathlib.Core.List.{List, [], ◌∷◌}
use mathlib.Core.Path.{◌≡◌, refl, sym, ap, ◌∙◌, subst}
use native.Mathlib.Decide.{dec_lt}
use native.Mathlib.Omega.{arith}
use borrow.Author.Tests.{ltb-true, leb-true, eqb-false, not-true}
use lib.Dec.{T, eqb}
use lib.ListN.{length}
use Rattle.flc.specs.Sets.{for_all, has}
use Rattle.flc.specs.Bisimulation.{alike}
use Rattle.flc.proofs.Masks.{set_of_lt}
use Rattle.case_model.specs.Bytes.{byte_at}
use Rattle.case_model.specs.Case.{Case, read, write, table}
use Rattle.case_model.specs.Kinds.{Triple}
use Rattle.case_model.specs.Rows.{sound, refusals}
use Rattle.case_model.specs.Limits.{most_nodes, standard}
use Rattle.case_model.specs.Replies.{Reply, answers, refuses}
use Rattle.case_model.specs.Judging.{verdict, row9}
use Rattle.case_model.specs.Looking.{looked}
use Rattle.case_model.specs.Merging.{moved, merge, merging}
use Rattle.case_model.specs.Rewriting.{Change, nothing, swap, change, is_there, rewrite, rewritten, rewriting}
use Rattle.case_model.specs.Book.{Edit, merges, rewrites, Book, begun, reply, restood, entered, turn, book}
use Rattle.case_model.specs.Run.{all_states, holds, every_start, starts_hold}
use Rattle.case_model.proofs.Tests.{and_l, and_r}
use Rattle.case_model.proofs.Sections.{left_sound, right_sound, unless_sound}
use Rattle.case_model.proofs.Valid.{accepted_valid}
use Rattle.case_model.specs.Valid.{Valid}
use Rattle.case_model.proofs.Replying.{answered}
use Rattle.case_model.proofs.Judged.{judging_answers}
use Rattle.case_model.proofs.Codec.{read-write}
use Rattle.case_model.proofs.Accepting.{valid_accepted}
use Rattle.case_model.proofs.Merged.{merge_few, merge_valid, moved_in, merge-holds}
use Rattle.case_model.proofs.MergedStarts.{starts-kept}
use Rattle.case_model.proofs.Unlike.{alike_turned}
use Rattle.case_model.proofs.Rewritten.{rewrite-holds, rewritten_valid}

-- state s is in the verdict on the set of all states
unfoldable pub satisfied : Case → ℕ → Bool
satisfied c s = has (verdict c (all_states c)).set s

-- the state g s of the last file stands for the state s of the first
pub record Stands (first last : List ℕ) (g : ℕ → ℕ) : Type 0 where
  pub accepted : refusals standard last ≡ sound
  pub within : (s : ℕ) → s < length (read first).labels → g s < length (read last).labels
  pub same : (s : ℕ) → s < length (read first).labels → satisfied (read first) s ≡ satisfied (read last) (g s)
  pub starts : every_start (read first) (satisfied (read first)) ≡ every_start (read last) (satisfied (read last))

-- a valid case is written as such a file
written_stands : (f : List ℕ) (c : Case) (g : ℕ → ℕ) → Valid standard c
    → ((s : ℕ) → s < length (read f).labels → g s < length c.labels)
    → ((s : ℕ) → s < length (read f).labels → satisfied (read f) s ≡ satisfied c (g s))
    → every_start (read f) (satisfied (read f)) ≡ every_start c (satisfied c) → Stands f (write c) g
written_stands f c g valid within same starts = record {
  accepted = valid_accepted c valid;
  within = subst (λ (d : Case). (s : ℕ) → s < length (read f).labels → g s < length d.labels) (sym (read-write c)) within;
  same = subst (λ (d : Case). (s : ℕ) → s < length (read f).labels → satisfied (read f) s ≡ satisfied d (g s)) (sym (read-write c)) same;
  starts = starts ∙ ap (λ (d : Case). every_start d (satisfied d)) (sym (read-write c));
}

-- judging says so of an accepted file with work area enough
judged : (f : List ℕ) (words s : ℕ) → refusals standard f ≡ sound → row9 (read f) words ≡ sound → holds f words s ≡ satisfied (read f) s
unfolding holds satisfied
judged f words s ok enough =
    rw (judging_answers f (all_states (read f)) words ok (set_of_lt (length (read f).labels) (λ s. true)) enough)

-- from a chain of rows that found nothing to each part of each test
ruleset rows = (left_sound, right_sound, unless_sound, and_l, and_r)

module _ (f : List ℕ) (ok : refusals standard f ≡ sound) where
  abbrev c : Case
  c = read f

  valid : Valid standard c
  valid = accepted_valid standard f ok

  -- ---- an accepted merge
  -- of k, the lower, and r
  merge_stands : (k r : ℕ) → k < r → r < length c.labels → T (alike (looked c) (table c) k r) → Stands f (write (merge c k r)) (moved k r)
  unfolding satisfied verdict
  merge_stands k r kr rn a =
      let within = moved_in valid k r kr rn in
      let same = merge-holds valid k r kr rn a in
      written_stands f (merge c k r) (moved k r) (merge_valid valid k r kr rn) within same
      (starts-kept valid k r (merge_few valid k r kr rn) within (satisfied c) (satisfied (merge c k r)) same)

  -- of s and t, in either order
  merging_stands : (s t room : ℕ) (new : List ℕ) → merging f s t room ≡ answers new → Stands f new (moved (min s t) (max s t))
  unfolding merging
  merging_stands s t room new e =
      let (_, x, q) = answered standard f _ _ e in
      let i : s < length c.labels = ltb-true _ _ (search rows depth 10) in
      let j : t < length c.labels = ltb-true _ _ (search rows depth 10) in
      let n : s ≡ t → ⊥ = eqb-false s t (not-true (eqb s t) (search rows depth 10)) in
      let a : alike (looked c) (table c) s t ≡ true = search rows depth 10 in
      subst (λ z. Stands f z (moved (min s t) (max s t))) q (go i j n a)
    where
      go : s < length c.labels → t < length c.labels → (s ≡ t → ⊥) → alike (looked c) (table c) s t ≡ true
          → Stands f (write (merge c (min s t) (max s t))) (moved (min s t) (max s t))
      go i j n a = elim (dec_lt s t) [
        | yes h ↦
            let lo : min s t ≡ s = omega arith in
            let hi : max s t ≡ t = omega arith in
            rw (lo, hi) (merge_stands s t h j (rw a tt))
        | no h ↦ elim (dec_lt t s) [
          | yes l ↦
              let lo : min s t ≡ t = omega arith in
              let hi : max s t ≡ s = omega arith in
              rw (lo, hi) (merge_stands t s l i (rw (← alike_turned valid s t i j, a) tt))
          | no l ↦ absurd (n (omega arith))
        ]
      ]

  -- ---- an accepted rewrite
  rewrite_stands : (law j : ℕ) {l : List Triple} {g : ℕ → ℕ} → change c.nodes law j ≡ swap l g → length (rewrite c j (swap l g)).nodes ≤ most_nodes
      → Stands f (write (rewrite c j (swap l g))) (λ s. s)
  unfolding satisfied every_start verdict rewrite
  rewrite_stands law j {l} {g} is few =
      let same = rewrite-holds valid.rule law j is (all_states c) (set_of_lt (length c.labels) _) in
      written_stands f (rewrite c j (swap l g)) (λ s. s) (rewritten_valid valid law j is few) (λ s i. i)
      (λ s i. ap (λ x. has x s) same) (ap (λ x. for_all (length c.starts) (λ i. has x (byte_at c.starts i))) same)

  -- what was answered was there
  rewriting_stands : (law j room : ℕ) (new : List ℕ) → rewriting f law j room ≡ answers new → Stands f new (λ s. s)
  unfolding rewriting
  rewriting_stands law j room new e =
      let (_, x, q) = answered standard f _ _ e in
      let there : is_there (change c.nodes law j) ≡ true = search rows depth 6 in
      let few : length (rewritten law j c).nodes ≤ most_nodes = leb-true _ _ (search rows depth 6) in
      subst (λ z. Stands f z (λ s. s)) q (go (change c.nodes law j) refl there few)
    where
      go : (e : Change) → change c.nodes law j ≡ e → is_there e ≡ true → length (rewrite c j e).nodes ≤ most_nodes
          → Stands f (write (rewrite c j e)) (λ s. s)
      go nothing is there few = absurd (subst T (sym there) tt)
      go (swap l g) is there few = rewrite_stands law j is few

  -- ---- an edit
  edit_stands : (e : Edit) (new : List ℕ) → reply f e ≡ answers new → Stands f new (restood e)
  edit_stands (merges s t room) = merging_stands s t room
  edit_stands (rewrites law j room) = rewriting_stands law j room

-- ---- the book
turn_stands : (first : List ℕ) (b : Book) (e : Edit) → Stands first b.file b.standing → Stands first (turn b e).file (turn b e).standing
turn_stands first b e S = go (reply b.file e) refl
  where
    go : (r : Reply (List ℕ)) → reply b.file e ≡ r → Stands first (entered b e r).file (entered b e r).standing
    go (refuses k p) q = S
    go (answers new) q =
        let N : Stands b.file new (restood e) = edit_stands b.file S.accepted e new q in
        record {
          accepted = N.accepted;
          within = λ s i. N.within (b.standing s) (S.within s i);
          same = λ s i. S.same s i ∙ N.same (b.standing s) (S.within s i);
          starts = S.starts ∙ N.starts;
        }

-- any list of edits, from any book and from the first one
edits_stand : (first : List ℕ) (b : Book) (l : List Edit) → Stands first b.file b.standing → Stands first (book b l).file (book b l).standing
unfolding book
edits_stand first b [] S = S
edits_stand first b (e ∷ l) S = edits_stand first (turn b e) l (turn_stands first b e S)

pub book_stands : (first : List ℕ) → refusals standard first ≡ sound → (l : List Edit)
    → Stands first (book (begun first) l).file (book (begun first) l).standing
book_stands first ok l = edits_stand first (begun first) l (record { accepted = ok; within = λ s i. i; same = λ s i. refl; starts = refl })

-- over judging itself
pub stands_judged : {first last : List ℕ} {g : ℕ → ℕ} → refusals standard first ≡ sound → Stands first last g → (words words' : ℕ)
    → row9 (read first) words ≡ sound → row9 (read last) words' ≡ sound
    → (s : ℕ) → s < length (read first).labels → holds first words s ≡ holds last words' (g s)
stands_judged {first} {last} {g} ok S words words' e e' s i =
    judged first words s ok e ∙ S.same s i ∙ sym (judged last words' (g s) S.accepted e')

-- of all start states together
starts_satisfied : (f : List ℕ) (words : ℕ) → refusals standard f ≡ sound → row9 (read f) words ≡ sound
    → starts_hold f words ≡ every_start (read f) (satisfied (read f))
unfolding starts_hold
starts_satisfied f words ok e = λ z. every_start (read f) (λ s. judged f words s ok e z)

pub starts_judged : {first last : List ℕ} {g : ℕ → ℕ} → refusals standard first ≡ sound → Stands first last g → (words words' : ℕ)
    → row9 (read first) words ≡ sound → row9 (read last) words' ≡ sound → starts_hold first words ≡ starts_hold last words'
starts_judged {first} {last} ok S words words' e e' = starts_satisfied first words ok e ∙ S.starts ∙ sym (starts_satisfied last words' S.accepted e')
