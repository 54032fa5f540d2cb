-- What is known of any entry's reply: which rows come first, what an answer tells, and what vetting's answer is worth to those that go on from it.
-- By cases on what rows 1 to 7 find, and then on what the entry's own rows do.
use Prim.Native.Nat.{ℕ}
use mathlib.Core.List.{List}
use mathlib.Core.Path.{◌≡◌, refl, sym, ap}
use lib.ListN.{length}
use Rattle.case_model.specs.Limits.{Limits}
use Rattle.case_model.specs.Case.{Case, read}
use Rattle.case_model.specs.Rows.{Found, sound, refused, ◌or_else◌, refusals}
use Rattle.case_model.specs.Replies.{Counts, counts, answers, refuses, replied, replying, accepting, Accepted, counted}
use Rattle.case_model.proofs.Sections.{left_sound, right_sound}

-- an answer says that nothing was found, and is what was to be answered
replied_sound : {A : Type 0} (r : Found) (a b : A) → replied r a ≡ answers b → (r ≡ sound) × (a ≡ b)
replied_sound sound a b e = (refl, cc)
replied_sound (refused k p) a b e = (cc, cc)

module _ {A : Type 0} (most : Limits) (f : List ℕ) (own : Case → Found) (answer : Case → A) where
  -- what one of rows 1 to 7 finds is the reply, whatever else the entry asks
  pub refused-first : {k p : ℕ} → refusals most f ≡ refused k p → replying most f own answer ≡ refuses k p
  unfolding replying
  refused-first e = rw e

  -- of an accepted file, what the entry's own rows find
  pub own_rows : refusals most f ≡ sound → replying most f own answer ≡ replied (own (read f)) (answer (read f))
  unfolding replying
  own_rows e = rw e

  -- an answer says that no row found anything, and what it is
  pub answered : {a : A} → replying most f own answer ≡ answers a → (refusals most f ≡ sound) × (own (read f) ≡ sound) × (answer (read f) ≡ a)
  unfolding replying
  answered {a} e =
      let (s, q) = replied_sound (refusals most f or_else own (read f)) (answer (read f)) a e in
      (left_sound (refusals most f) (own (read f)) s, right_sound (refusals most f) (own (read f)) s, q)

-- an entry that writes tells how many bytes its answer has
pub counted_too : (most : Limits) (f : List ℕ) (own : Case → Found) (new : Case → List ℕ)
    → counted (replying most f own new) ≡ replying most f own (λ c. length (new c))
unfolding replying
counted_too most f own new = go (refusals most f or_else own (read f))
  where
    go : (r : Found) → counted (replied r (new (read f))) ≡ replied r (length (new (read f)))
    go sound = refl
    go (refused k p) = refl

-- replies that are equal of accepted files are equal
pub accepted_alone : {A : Type 0} (most : Limits) (f : List ℕ) (own own' : Case → Found) (answer answer' : Case → A)
    → (refusals most f ≡ sound → replied (own (read f)) (answer (read f)) ≡ replied (own' (read f)) (answer' (read f)))
    → replying most f own answer ≡ replying most f own' answer'
unfolding replying
accepted_alone most f own own' answer answer' = go (refusals most f)
  where
    go : (r : Found) → (r ≡ sound → replied (own (read f)) (answer (read f)) ≡ replied (own' (read f)) (answer' (read f)))
        → replied (r or_else own (read f)) (answer (read f)) ≡ replied (r or_else own' (read f)) (answer' (read f))
    go sound h = h refl
    go (refused k p) h = refl

-- ---- vetting's answer
module _ (most : Limits) (f : List ℕ) where
  -- counts are those of an accepted file
  pub accepts : {n : Counts} → accepting most f ≡ answers n → Accepted most f n
  unfolding accepting
  accepts e =
      let (ok, _, q) = answered most f (λ c. sound) _ e in
      record { rows = ok; states = ap (λ (n : Counts). n.states) (sym q); nodes = ap (λ (n : Counts). n.nodes) (sym q) }

  -- and a refusal is one that every entry within these limits replies
  turned_back : {k p : ℕ} → accepting most f ≡ refuses k p → refusals most f ≡ refused k p
  unfolding accepting replying
  turned_back {k} {p} = go (refusals most f)
    where
      go : (r : Found) → replied (r or_else sound) (counts (read f)) ≡ refuses k p → r ≡ refused k p
      go sound e = cc
      go (refused j q) e = cc

  pub refused_too : {A : Type 0} (own : Case → Found) (answer : Case → A) {k p : ℕ} → accepting most f ≡ refuses k p
      → replying most f own answer ≡ refuses k p
  refused_too own answer e = refused-first most f own answer (turned_back e)
