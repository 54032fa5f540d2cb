-- What the program prints, as bytes: docs/SPECIFICATION.md, section 9.
use Rattle.std.specs.Prelude.{ℕ, zero, suc, ◌^◌, Bool, cond, List, [], ◌∷◌, ◌++◌, ◌≡◌, ltb, length, take}
use Rattle.io.specs.Counts.{IsPrefixLen}
use Rattle.io.specs.Digits.{last_digits}
use Rattle.flc.specs.Sets.{first, has}
use Rattle.case_model.specs.Areas.{Laid}
use Rattle.case_model.specs.Case.{read}
use Rattle.case_model.specs.Replies.{Reply, answers, refuses}
use Rattle.case_model.specs.Judging.{Verdict, judging}
use Rattle.case_model.specs.Run.{all_states, starts_hold}
use Rattle.judge_case.specs.declared.page.Page.{Page}

-- "states ", "rounds ", "starts", "refused ", " yes", " no", each with what follows it on its line
abbrev pub states : List ℕ
states = 115 ∷ 116 ∷ 97 ∷ 116 ∷ 101 ∷ 115 ∷ 32 ∷ []

abbrev pub rounds : List ℕ
rounds = 114 ∷ 111 ∷ 117 ∷ 110 ∷ 100 ∷ 115 ∷ 32 ∷ []

abbrev pub starts : List ℕ
starts = 115 ∷ 116 ∷ 97 ∷ 114 ∷ 116 ∷ 115 ∷ []

abbrev pub refused : List ℕ
refused = 114 ∷ 101 ∷ 102 ∷ 117 ∷ 115 ∷ 101 ∷ 100 ∷ 32 ∷ []

abbrev pub yes_text : List ℕ
yes_text = 32 ∷ 121 ∷ 101 ∷ 115 ∷ 10 ∷ []

abbrev pub no_text : List ℕ
no_text = 32 ∷ 110 ∷ 111 ∷ 10 ∷ []

abbrev pub end : List ℕ
end = 10 ∷ []

abbrev pub space : List ℕ
space = 32 ∷ []

-- a number in decimal, with as few digits as hold it
unfoldable pub numeral : ℕ → List ℕ
numeral n = last_digits 10 (first (λ k. ltb n (10 ^ k)) 1 19) n

abbrev pub line : List ℕ → ℕ → List ℕ
line what n = what ++ (numeral n ++ end)

abbrev pub yes_or_no : Bool → List ℕ
yes_or_no b = cond b yes_text no_text

-- clause 9.2: the lines of the states below n, of which those in x hold
unfoldable pub lines : ℕ → ℕ → List ℕ
lines zero x = []
lines (suc s) x = lines s x ++ (numeral s ++ yes_or_no (has x s))

-- clauses 9.2 and 9.6: the lines of a verdict on n states, the last of them whether every start state holds
unfoldable pub verdict_lines : ℕ → Bool → Verdict → List ℕ
verdict_lines n all v = line states n ++ (line rounds v.rounds ++ (lines n v.set ++ (starts ++ yes_or_no all)))

-- clause 9.3: the one line of a refusal
unfoldable pub refusal_line : ℕ → ℕ → List ℕ
refusal_line k p = refused ++ (numeral k ++ line space p)

-- one or the other, by judging's reply
abbrev pub printed : ℕ → Bool → Reply Verdict → List ℕ
printed n all (answers v) = verdict_lines n all v
printed n all (refuses k p) = refusal_line k p

-- clause 9.1: how many words the work area has
abbrev pub words : ℕ
words = 32768

-- clause 9.1: the print of a file, judged on all its states with so many words
unfoldable pub page : List ℕ → List ℕ
page f = printed (length (read f).labels) (starts_hold f words) (judging f (all_states (read f)) words)

-- ---- a page of text in the code
abbrev pub text : Page → List ℕ
text p = take p.length p.bytes

-- the page shows the text l
pub record Shows (p : Page) (l : List ℕ) : Type 0 where
  pub is : text p ≡ l
  pub fits : IsPrefixLen p.length p.bytes

-- the page r is p with the text l more
abbrev pub Grew : Page → Page → List ℕ → Type 0
Grew p r l = Laid p.bytes r.bytes p.length r.length l

-- a page without text
pub record Blank (p : Page) : Type 0 where
  pub none : p.length ≡ 0
  pub room : length p.bytes ≡ 512
