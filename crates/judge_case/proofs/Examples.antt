-- The print of case F (clause 9.5), from the drive that is proved of it; of F with an open root, by computation;
-- and of any input that is too long, by its length alone.
use Prim.Native.Nat.{ℕ, ◌*◌, ◌<◌}
use mathlib.Core.Bool.{true}
use mathlib.Core.List.{List, [], ◌∷◌}
use mathlib.Core.Path.{◌≡◌, refl, ap}
use native.Mathlib.Omega.{arith}
use borrow.Author.Tests.{le-leb, lt-leb}
use lib.ListN.{length}
use Rattle.flc.specs.Sets.{both, either, for_all, for_some, first, has, set_of}
use Rattle.flc.specs.Formula.{free}
use Rattle.flc.specs.Nodes.{lower, formula_at}
use Rattle.case_model.specs.Bytes.{list_of, padding, chained, pairs_hold, section}
use Rattle.case_model.specs.Limits.{sections, standard}
use Rattle.case_model.specs.Case.{node_at, rule}
use Rattle.case_model.specs.Kinds.{kinds, kind_at}
use Rattle.case_model.specs.Rows.{refused, lowest, root_closed, refusals}
use Rattle.case_model.specs.Replies.{replying, answers}
use Rattle.case_model.specs.Judging.{verdict, judging}
use Rattle.case_model.specs.Run.{every_start, starts_hold}
use Rattle.drives.specs.Drives.{Right, drives}
use Rattle.drives.proofs.Computed.{drives_right}
use Rattle.judge_case.specs.Printed.{numeral, lines, verdict_lines, refusal_line, printed, words, page}
use Rattle.judge_case.proofs.Pages.{refused-page}

-- case F, whose root is 9, with any root
abbrev case_f : ℕ → List ℕ
case_f root =
    16 ∷ 0 ∷ 2 ∷ 0 ∷ 18 ∷ 0 ∷ 6 ∷ 0 ∷ 24 ∷ 0 ∷ 31 ∷ 0 ∷ 55 ∷ 0 ∷ 0 ∷ 0
    ∷ 0 ∷ 0
    ∷ 0 ∷ 0 ∷ 1 ∷ 1 ∷ 1 ∷ 1
    ∷ 4 ∷ 0 ∷ 0 ∷ 4 ∷ 1 ∷ 0 ∷ 10 ∷ 0 ∷ 1 ∷ 10 ∷ 2 ∷ 0 ∷ 12 ∷ 1 ∷ 3 ∷ 6 ∷ 0 ∷ 0 ∷ 10 ∷ 5 ∷ 4 ∷ 6 ∷ 1 ∷ 0 ∷ 8 ∷ 7 ∷ 6 ∷ 11 ∷ 0 ∷ 8
    ∷ root ∷ []

-- the 55 bytes are those of the drive
right : Right (record { file = case_f 9; rounds = 2 ∷ []; values = (3, 3) ∷ (0, 1) ∷ []; approximants = [] })
unfolding drives
right = drives_right.0

judged : judging (case_f 9) 3 words ≡ answers (record { set = 3; rounds = 2 })
unfolding judging replying verdict section list_of
judged = rw (right.accepted, right.gives.0, right.counts.0)

-- "states 2", "rounds 2", "0 yes", "1 yes", "starts yes"
pub print_F : page (case_f 9)
    ≡ 115 ∷ 116 ∷ 97 ∷ 116 ∷ 101 ∷ 115 ∷ 32 ∷ 50 ∷ 10
    ∷ 114 ∷ 111 ∷ 117 ∷ 110 ∷ 100 ∷ 115 ∷ 32 ∷ 50 ∷ 10
    ∷ 48 ∷ 32 ∷ 121 ∷ 101 ∷ 115 ∷ 10
    ∷ 49 ∷ 32 ∷ 121 ∷ 101 ∷ 115 ∷ 10
    ∷ 115 ∷ 116 ∷ 97 ∷ 114 ∷ 116 ∷ 115 ∷ 32 ∷ 121 ∷ 101 ∷ 115 ∷ 10 ∷ []
unfolding page starts_hold every_start for_all verdict_lines lines numeral first has set_of section list_of
print_F = ap (printed 2 true) judged

-- node 4, νZ.Y;Z;Y, leaves Y free
open_root : refusals standard (case_f 4) ≡ refused 7 0
unfolding first refusals pairs_hold chained padding section list_of lowest for_all for_some both either root_closed rule formula_at lower node_at kind_at kinds free
open_root = refl

-- so the print is "refused 7 0"
pub print_7 : page (case_f 4) ≡ 114 ∷ 101 ∷ 102 ∷ 117 ∷ 115 ∷ 101 ∷ 100 ∷ 32 ∷ 55 ∷ 32 ∷ 48 ∷ 10 ∷ []
unfolding refusal_line numeral first
print_7 = refused-page (case_f 4) 7 0 open_root

-- clause 9.4: "refused 1 0"
pub print_longer : (f : List ℕ) → standard.longest < length f
    → page f ≡ 114 ∷ 101 ∷ 102 ∷ 117 ∷ 115 ∷ 101 ∷ 100 ∷ 32 ∷ 49 ∷ 32 ∷ 48 ∷ 10 ∷ []
unfolding refusal_line numeral first refusals pairs_hold
print_longer f h =
    let not_IsShort = le-leb (4 * sections) (length f) (omega arith) in
    let too_long = lt-leb (length f) standard.longest h in
    refused-page f 1 0 (rw (not_IsShort, too_long))
