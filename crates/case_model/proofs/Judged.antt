-- Demand 2: an accepted file with work area enough is answered, and its answer is what Knaster and Tarski say of the root, with the least round.
-- The root names lower nodes only, so its tree is made of theirs; an environment for a root is monotone; the rest is what binders mean.
use Prim.Native.Nat.{ℕ, ◌^◌, ◌≤◌, ◌<◌}
use mathlib.Core.Bool.{Bool, true, false}
use mathlib.Core.List.{List}
use mathlib.Core.Logic.{◌↔◌}
use mathlib.Core.Path.{◌≡◌, refl, ap}
use borrow.Author.Tests.{lt-ltb}
use lib.Dec.{T}
use lib.ListN.{length}
use Rattle.flc.specs.Sets.{has}
use Rattle.flc.specs.Functions.{Fun}
use Rattle.flc.specs.Formula.{Table, Formula, fix, put, mean, none}
use Rattle.flc.specs.Nodes.{Node, leaf, two, bind, tree, lower, formula_at, rounds_of, rounds_at, Names}
use Rattle.flc.proofs.Order.{monotone_use, monotone_mk, below_use, below_mk, agree_use, agree_mk}
use Rattle.flc.specs.Order.{Good}
use Rattle.flc.proofs.FixedPoints.{Steady}
use Rattle.flc.proofs.Rounds.{rounds_le, rounds_stand, rounds-first}
use Rattle.flc.proofs.Meanings.{none_good, mean_small, mean_steady, mu_iff, nu_iff}
use Rattle.flc.proofs.Unfolding.{lower-at, formula_at_node}
use Rattle.case_model.specs.Limits.{most_states, standard}
use Rattle.case_model.specs.Case.{Case, read, table, node_at, rule}
use Rattle.case_model.specs.Rows.{sound, ◌or_else◌, row8, refusals}
use Rattle.case_model.specs.Replies.{answers, replied, replying}
use Rattle.case_model.specs.Judging.{Verdict, verdict, row9, judging}
use Rattle.case_model.specs.Run.{all_states}
use Rattle.case_model.specs.Decision.{Monotone, InFixed, FirstStill, Decides, Decided}
use Rattle.case_model.proofs.Replying.{answered, accepted_alone}
use Rattle.case_model.proofs.Valid.{accepted_valid}
use Rattle.case_model.specs.Valid.{Valid}
use Rattle.case_model.proofs.Nodes.{node_lower}
use Rattle.case_model.proofs.DemandExamples as examples

-- an accepted file with work area enough is answered at every set of its states
pub judging_answers : (f : List ℕ) (x words : ℕ) → refusals standard f ≡ sound → x < 2 ^ length (read f).labels → row9 (read f) words ≡ sound
    → judging f x words ≡ answers (verdict (read f) x)
unfolding judging replying
judging_answers f x words ok i enough = simp (ok, enough, lt-ltb _ _ i)

-- an answer is of a case, which has few states
pub judged_few : (f : List ℕ) (x words : ℕ) {v : Verdict} → judging f x words ≡ answers v → length (read f).labels ≤ most_states
unfolding judging
judged_few f x words e = (accepted_valid standard f (answered standard f _ _ e).0).table.few

-- a set that is all states wherever the file is a case does as well as that of all states
pub all_judged : (f : List ℕ) (x words : ℕ) → (length (read f).labels ≤ most_states → x ≡ all_states (read f))
    → judging f x words ≡ judging f (all_states (read f)) words
unfolding judging
all_judged f x words a = accepted_alone standard f _ _ _ _ (λ ok.
    let c : Case = read f in
    ap (λ y. replied (row8 y (2 ^ length c.labels) or_else row9 c words) (verdict c y)) (a (accepted_valid standard f ok).table.few))

-- monotone functions, as tests and as types
good : {n : ℕ} {f : Fun} → Monotone n f → Good n f
good {n} {f} M = record { small = M.sets; mono = monotone_use n f M.rises }

monotone : {n : ℕ} {f : Fun} → Good n f → Monotone n f
monotone G = record { sets = G.small; rises = monotone_mk G }

-- ---- a binder
module _ (L : Table) (p : Formula) (v : ℕ) where
  abbrev body : Fun → Fun
  body f = mean L p (put none v f)

  in_fixed : (d : Bool) (x s : ℕ) → x < 2 ^ L.n → s < L.n → T (has (mean L (fix d v p) none x) s) ↔ InFixed d L.n body x s
  in_fixed true x s i k =
      let m = mu_iff L p v none (none_good L.n) x s i k in
      (λ t f M h. m.0 t f (good M) (below_use L.n _ f h), λ h. m.1 (λ f G u. h f (monotone G) (below_mk L.n _ f u)))
  in_fixed false x s i k =
      let m = nu_iff L p v none (none_good L.n) x s i k in (
        λ t. let (f, G, u, h) = m.0 t in (f, monotone G, below_mk L.n f _ u, h),
        λ (f, M, h, t). m.1 (f, good M, below_use L.n f _ h, t),
      )

  first_still : (d : Bool) → FirstStill d L.n body (rounds_of L (bind d v 0) (λ i. p))
  unfolding rounds_of
  first_still d =
      let S : Steady L.n body = mean_steady L p v none (none_good L.n) in
      record {
        still = agree_mk L.n _ _ (rounds_stand d S);
        first = λ j h t. rounds-first d S j h (agree_use L.n _ _ t);
        most = rounds_le d S;
      }

-- ---- any root
decides : (L : Table) (φ : ℕ → Formula) (y : Node) (x : ℕ) → x < 2 ^ L.n
    → Decides L φ y x (record { set = mean L (tree y φ) none x; rounds = rounds_of L y φ })
unfolding rounds_of
decides L φ (leaf p) x i = (refl, refl)
decides L φ (two o a b) x i = (refl, refl)
decides L φ (bind d v b) x i = (λ s k. in_fixed L (φ b) v d x s i k, first_still L (φ b) v d)

-- its rounds are those of the trees of the nodes that it names
rounds-lower : (L : Table) (N : ℕ → Node) (j : ℕ) (y : Node) → ((i : ℕ) → Names y i → i < j) → rounds_of L y (lower N j) ≡ rounds_of L y (formula_at N)
unfolding rounds_of
rounds-lower L N j (leaf p) h = refl
rounds-lower L N j (two o a b) h = refl
rounds-lower L N j (bind d v b) h = ap (λ p. rounds_of L (bind d v b) (λ i. p)) (lower-at N j b (h b refl))

-- ---- the answer
pub demand_2 : (f : List ℕ) (x words : ℕ) → refusals standard f ≡ sound → x < 2 ^ length (read f).labels → row9 (read f) words ≡ sound → Decided f x words
unfolding verdict table rule rounds_at
demand_2 f x words ok i enough =
    let c : Case = read f in
    let valid : Valid standard c = accepted_valid standard f ok in
    let low = node_lower valid.rule c.root valid.rule.root in
    record {
      verdict = verdict c x;
      answered = judging_answers f x words ok i enough;
      within = mean_small (table c) (rule c) none (none_good (table c).n) x i;
      decides =
          rw (formula_at_node (node_at c) c.root low, rounds-lower (table c) (node_at c) c.root (node_at c c.root) low)
          (decides (table c) (formula_at (node_at c)) (node_at c c.root) x i);
    }
