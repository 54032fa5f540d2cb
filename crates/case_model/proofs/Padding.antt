-- Padding is no part of a case: two files with the same sections are the same case, are refused alike, and every entry replies the same of both.
-- What is read is read from a section, and each reply is made of the case and of what the rows find.
use Prim.Native.Nat.{ℕ, ◌*◌, ◌/◌, ◌%◌, ◌≤◌, ◌<◌}
use mathlib.Core.Bool.{Bool, true, ◌&&◌}
use mathlib.Core.List.{List, [], ◌∷◌}
use mathlib.Core.Path.{◌≡◌, refl, sym, ap, ap₂, ◌∙◌, subst}
use native.Mathlib.Decide.{dec_lt}
use native.Mathlib.Omega.{arith}
use borrow.Author.Tests.{le-ltb}
use lib.Dec.{eqb, leb, ltb}
use lib.ListN.{length, length-append}
use Rattle.case_model.specs.Limits.{Limits, sections, most_nodes, standard}
use Rattle.case_model.specs.Bytes.{list_of, byte_at, size, pairs_hold, section, packed}
use Rattle.case_model.specs.Case.{Case, read, triple_at, triples, write}
use Rattle.case_model.specs.Rows.{Found, sound, refused, ◌or_else◌, unless, lowest, step_wrong, starts_rise, row2, row5, row6, row7, row8, refusals}
use Rattle.case_model.specs.Replies.{Reply, answers, refuses, replied, counts, replying, vetting, opened, opening, counted}
use Rattle.case_model.specs.Merging.{merging}
use Rattle.case_model.specs.Rewriting.{rewriting}
use Rattle.case_model.specs.Book.{Edit, merges, rewrites, Book, begun, reply, entered, turn}
use Rattle.case_model.specs.Run.{replies}
use Rattle.case_model.specs.Padding.{PaddingAside, repacked, SameReplies, SameParts}
use Rattle.case_model.proofs.Lists.{length-list_of, get_or-list_of}
use Rattle.case_model.proofs.Sections.{section-length, head_first, section_gap, within, within_longest}
use Rattle.case_model.proofs.Valid.{accepted_pairs, steps_whole, rule_whole}
use Rattle.case_model.proofs.SectionBytes.{steps_bytes, rule_bytes_lem}
use Rattle.case_model.proofs.Codec.{length-packed, packed-section}
use Rattle.case_model.proofs.Accepting.{packed-holds}

module _ {most : Limits} {f g : List ℕ} (p : PaddingAside most f g) where
  -- ---- what is read
  pub sizes : (k : ℕ) → k < sections → size f k ≡ size g k
  sizes k h = sym (section-length f k) ∙ ap length (p.same k h) ∙ section-length g k

  triples_same : (k : ℕ) → k < sections → triples f k ≡ triples g k
  triples_same k h = λ z. list_of (sizes k h z / 3) (λ i. triple_at (p.same k h z) (3 * i))

  pub read_same : read f ≡ read g
  read_same = λ z. record {
    labels = p.same 0 (omega arith) z;
    steps = triples_same 1 (omega arith) z;
    nodes = triples_same 2 (omega arith) z;
    root = byte_at (p.same 2 (omega arith) z) (3 * (sizes 2 (omega arith) z / 3));
    starts = p.same 3 (omega arith) z;
  }

  -- ---- what the rows find
  pub refusals_same : refusals most f ≡ refusals most g
  unfolding refusals
  refusals_same = λ z.
      let c : Case = read_same z in
      let m : ℕ = length c.nodes in
      let steps : Found = unless (eqb (sizes 1 (omega arith) z % 3) 0) 3 0 or_else lowest 3 (step_wrong c) (length c.steps) in
      let whole : Bool = eqb (sizes 2 (omega arith) z % 3) 1 && leb 1 m && leb m most_nodes && ltb c.root m in
      unless ((p.one ∙ sym p.other) z) 1 0 or_else row2 most c or_else steps or_else (unless whole 4 0 or_else unless (starts_rise c) 4 0)
      or_else row5 c or_else row6 c or_else row7 c

  pub padding_aside : SameReplies most f g
  unfolding replying
  padding_aside = record { replies = λ own answer z. replied (refusals_same z or_else own (read_same z)) (answer (read_same z)) }

-- of a section that is not there nothing is opened
beyond : (f : List ℕ) (k : ℕ) → (k < sections → ⊥) → opening f k ≡ []
unfolding opening vetting replying
beyond f k h = rw (le-ltb k sections (omega arith)) (none (refusals standard f))
  where
    none : (x : Found) → opened (replied (x or_else refused 8 0) (counts (read f))) (section f k) [] ≡ []
    none sound = refl
    none (refused n at) = refl

pub parts_aside : {f g : List ℕ} → PaddingAside standard f g → SameParts f g
unfolding opening vetting
parts_aside {f} {g} p k = elim (dec_lt k sections) [
  | yes h ↦ λ z. opened ((padding_aside p).replies (λ c. row8 k sections) counts z) (p.same k h z) []
  | no h ↦ beyond f k h ∙ sym (beyond g k h)
]

-- ---- the packed file
module _ (most : Limits) (f : List ℕ) where
  -- it is not longer, since the sections of a file lie behind one another
  repacked_short : pairs_hold most f ≡ true → length (repacked f) ≤ length f
  unfolding repacked list_of
  repacked_short e =
      simp (length-packed, length-append, section-length) (omega (
        arith,
        head_first most f e,
        section_gap most f e 0 (omega arith),
        section_gap most f e 1 (omega arith),
        section_gap most f e 2 (omega arith),
        within most f e 3 (omega arith),
      ))

  -- clause 1.17, of a file that row 1 does not refuse: its sections packed
  pub repacked_aside : pairs_hold most f ≡ true → PaddingAside most f (repacked f)
  unfolding repacked
  repacked_aside e =
      let l : List (List ℕ) = list_of sections (section f) in
      let four : length l ≡ sections = length-list_of sections (section f) in
      record {
        one = e;
        other = packed-holds most l four (omega (arith, repacked_short e, within_longest most f e));
        same = λ k h. sym (packed-section l k (omega arith) ∙ get_or-list_of sections (section f) [] k h);
      }

  -- and of an accepted file: the packed file of its case
  pub repacked-written : refusals most f ≡ sound → repacked f ≡ write (read f)
  unfolding repacked list_of write
  repacked-written ok = λ z. packed (section f 0 ∷ steps_bytes f (steps_whole most f ok) z ∷ rule_bytes_lem f (rule_whole most f ok) z ∷ section f 3 ∷ [])

  pub written_aside : refusals most f ≡ sound → PaddingAside most f (write (read f))
  written_aside ok = subst (PaddingAside most f) (repacked-written ok) (repacked_aside (accepted_pairs most f ok))

-- ---- a list of edits
-- the books' files are one file, or differ in padding alone
data Same (f g : List ℕ) : Type 0 where
  equal : f ≡ g → Same f g
  aside : PaddingAside standard f g → Same f g

reply_same : {f g : List ℕ} → Same f g → (e : Edit) → reply f e ≡ reply g e
unfolding merging rewriting
reply_same (equal q) e = ap (λ f. reply f e) q
reply_same (aside p) (merges s t room) = (padding_aside p).replies _ _
reply_same (aside p) (rewrites law j room) = (padding_aside p).replies _ _

-- once an edit is accepted, both books have the file that it wrote
entered_same : (b c : Book) (e : Edit) (r : Reply (List ℕ)) → Same b.file c.file → Same (entered b e r).file (entered c e r).file
entered_same b c e (answers new) h = equal refl
entered_same b c e (refuses k p) h = h

replies_same : (b c : Book) → Same b.file c.file → (l : List Edit) → replies b l ≡ replies c l
unfolding replies
replies_same b c h [] = refl
replies_same b c h (e ∷ l) =
    let r : reply b.file e ≡ reply c.file e = reply_same h e in
    let next : Same (turn b e).file (turn c e).file =
    subst (λ z. Same (turn b e).file (entered c e z).file) r (entered_same b c e (reply b.file e) h) in
    ap₂ (λ x xs. counted x ∷ xs) r (replies_same (turn b e) (turn c e) next l)

-- clause 1.17: every reply in a list is the same from either file on
pub list_aside : {f g : List ℕ} → PaddingAside standard f g → (l : List Edit) → replies (begun f) l ≡ replies (begun g) l
list_aside {f} {g} p = replies_same (begun f) (begun g) (aside p)
