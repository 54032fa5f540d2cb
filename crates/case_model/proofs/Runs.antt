-- Demand 3 of the calls themselves: along any row of calls that keep their promises, replies and files are the plain book's.
-- By induction over the calls: the bytes that an accepted call wrote are the book's next file.
use Prim.Native.Nat.{ℕ}
use mathlib.Core.List.{List, [], ◌∷◌, map}
use mathlib.Core.Path.{◌≡◌, refl, sym, ap, ap₂, ◌∙◌, subst}
use lib.ListN.{length, drop}
use lib.Seq.{take-append_seam}
use Rattle.case_model.specs.Limits.{standard}
use Rattle.case_model.specs.Rows.{sound, refusals}
use Rattle.case_model.specs.Replies.{Reply, answers, refuses, counted, written}
use Rattle.case_model.specs.Merging.{merging}
use Rattle.case_model.specs.Book.{Edit, Book, begun, reply, entered, turn, book}
use Rattle.case_model.specs.Run.{Call, edit, Promised, handed, Calls, ended, called, Each, UnlikeTold, replies, Kept}
use Rattle.case_model.proofs.Unlike.{unlike_exactly}
use Rattle.case_model.proofs.Demand.{Stands, book_stands, stands_judged, starts_judged}

-- the file handed on is the one that the book enters
handed-entered : (b : Book) (e : Edit) (r : Reply (List ℕ)) (before : List ℕ) → handed b.file (counted r) (written r before) ≡ (entered b e r).file
handed-entered b e (answers new) before = take-append_seam new (drop (length new) before)
handed-entered b e (refuses k p) before = refl

-- from any book
run : (b : Book) (l : List Call) (f last : List ℕ) → b.file ≡ f → Calls f l last
    → ((book b (map edit l)).file ≡ last) × (replies b (map edit l) ≡ map (λ (c : Call). c.told) l)
unfolding book replies
run b [] f last e ended = (e, refl)
run b (c ∷ l) f last e (called P K) =
    let Q : Promised b.file c = subst (λ z. Promised z c) (sym e) P in
    let n : (turn b (edit c)).file ≡ handed f c.told c.after =
    sym (handed-entered b (edit c) (reply b.file (edit c)) c.before) ∙ rw (Q.says, Q.leaves, e) in
    let (x, y) = run (turn b (edit c)) l (handed f c.told c.after) last n K in
    (x, ap₂ (λ t ts. t ∷ ts) (sym Q.says) y)

-- ---- "unlike", at each call
-- a refusal is told as it is
counted_refuses : (r : Reply (List ℕ)) (k p : ℕ) → counted r ≡ refuses k p → r ≡ refuses k p
counted_refuses (answers new) k p e = cc
counted_refuses (refuses j q) k p e = cc

unlike_told : (f : List ℕ) (c : Call) → refusals standard f ≡ sound → Promised f c → UnlikeTold f c
unlike_told f c ok P s t room e i j ne =
    let u = unlike_exactly f ok s t i j ne room in
    let says : c.told ≡ counted (merging f s t room) = P.says ∙ ap (λ d. counted (reply f d)) e in
    (λ h. u.0 (counted_refuses (merging f s t room) 10 0 (sym says ∙ h)), λ n. says ∙ ap counted (u.1 n))

-- the file handed on is accepted again
handed_accepted : (f : List ℕ) (c : Call) → refusals standard f ≡ sound → Promised f c → refusals standard (handed f c.told c.after) ≡ sound
unfolding book
handed_accepted f c ok P =
    rw (P.says, P.leaves, handed-entered (begun f) (edit c) (reply f (edit c)) c.before) (book_stands f ok (edit c ∷ [])).accepted

each_unlike : (f : List ℕ) (l : List Call) (last : List ℕ) → refusals standard f ≡ sound → Calls f l last → Each UnlikeTold f l
unfolding Each
each_unlike f [] last ok ended = tt
each_unlike f (c ∷ l) last ok (called P K) =
    (unlike_told f c ok P, each_unlike (handed f c.told c.after) l last (handed_accepted f c ok P) K)

-- with what holds of the book
pub demand_3 : (first : List ℕ) (l : List Call) (last : List ℕ) → refusals standard first ≡ sound → Calls first l last → Kept first l last
demand_3 first l last ok calls =
    let (file, told) = run (begun first) l first last refl calls in
    let S : Stands first last (book (begun first) (map edit l)).standing = rw file at (book_stands first ok (map edit l)) in
    record {
      file = file;
      told = told;
      unlike = each_unlike first l last ok calls;
      accepted = S.accepted;
      within = S.within;
      verdict = record { states = stands_judged ok S; starts = starts_judged ok S };
    }
