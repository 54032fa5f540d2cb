-- The definitions computed on tables of one to three states: a slip in one of them is a false equation here.
-- Every proof is refl.
use mathlib.Core.Path.{◌≡◌, refl}
use mathlib.Core.Bool.{Bool, true, false, not}
use Prim.Native.Nat.{ℕ, zero, suc, ◌*◌, ◌-◌}
use mathlib.Core.List.{[], ◌∷◌}
use lib.Dec.{eqb}
use Rattle.flc.specs.Sets.{both, either, implies, for_all, for_some, among, first, has, set_of}
use Rattle.flc.specs.Sums.{sum_of, count_of}
use Rattle.flc.specs.Permutations.{sum_over, times, is_permutation}
use Rattle.flc.specs.Functions.{contained, below, monotone, agree, for_all_fun, for_some_fun, meet, join, approximant, rounds}
use Rattle.flc.specs.Formula.{Table, top, bottom, tau, prop, nprop, modal, or, and, chop, Formula, atom, var, op, fix}
use Rattle.flc.specs.Formula.{steps_by, mean_atom, put, mean, none, free}
use Rattle.flc.specs.Nodes.{Node, leaf, bind, Names, lower, formula_at, rounds_of, rounds_at}
use Rattle.flc.specs.Own.{own_below, own}
use Rattle.flc.specs.Vocabulary.{only_props, only_acts, vocabulary, reduct}
use Rattle.flc.specs.Bisimulation.{met, matching, bisimilar, bisimulation, alike}

-- what a closed rule gives at the set x
value : Table → Formula → ℕ → ℕ
unfolding mean mean_atom steps_by among put none meet join for_all_fun for_some_fun monotone below contained has set_of for_all for_some both either implies
value L p x = mean L p none x

-- one state, no steps
still : Table
still = record { n = 1; label = λ s. 0; step = λ s a t. false }

-- two states, state 1 has proposition 0; steps (0,0,0) and (0,0,1)
fork : Table
unfolding both
fork = record { n = 2; label = λ s. s; step = λ s a t. both (eqb s 0) (eqb a 0) }

-- three states, 1 has proposition 0 and 2 has proposition 1; steps (0,0,1) and (0,0,2)
split : Table
unfolding both
split = record { n = 3; label = λ s. s; step = λ s a t. both (both (eqb s 0) (eqb a 0)) (not (eqb t 0)) }

-- two states; from 0 a step by action 0 to 0 and one by action 7 to 1
turn : Table
unfolding both either
turn = record { n = 2; label = λ s. 0; step = λ s a t. both (eqb s 0) (either (both (eqb a 0) (eqb t 0)) (both (eqb a 7) (eqb t 1))) }

-- ---- atoms. As a group 1 is {0}, 2 is {1}, 128 is {7} and 129 is {0, 7}

-- without an a-step [a] holds and ⟨a⟩ does not
box_no_step : value still (atom (modal false 1)) 0 ≡ 1
unfolding value still
box_no_step = refl

dia_no_step : value still (atom (modal true 1)) 1 ≡ 0
unfolding value still
dia_no_step = refl

-- of two steps one goes into X: ⟨a⟩ holds in state 0 and [a] does not
dia_one_of_two : value fork (atom (modal true 1)) 2 ≡ 1
unfolding value fork
dia_one_of_two = refl

box_one_of_two : value fork (atom (modal false 1)) 2 ≡ 2
unfolding value fork
box_one_of_two = refl

other_action : value fork (atom (modal true 2)) 3 ≡ 0
unfolding value fork
other_action = refl

-- the group {0, 7}: one of its steps goes into X; that of action 7 alone: its only step does
group_one_of_two : value turn (atom (modal true 129)) 2 ≡ 1
unfolding value turn
group_one_of_two = refl

group_not_both : value turn (atom (modal false 129)) 2 ≡ 2
unfolding value turn
group_not_both = refl

group_last_action : value turn (atom (modal true 128)) 2 ≡ 1
unfolding value turn
group_last_action = refl

-- the empty group has no step, whatever steps there are
empty_group_some : value turn (atom (modal true 0)) 3 ≡ 0
unfolding value turn
empty_group_some = refl

empty_group_all : value turn (atom (modal false 0)) 0 ≡ 3
unfolding value turn
empty_group_all = refl

tt_all : value fork (atom top) 0 ≡ 3
unfolding value fork
tt_all = refl

ff_none : value fork (atom bottom) 3 ≡ 0
unfolding value fork
ff_none = refl

tau_set : value fork (atom tau) 2 ≡ 2
unfolding value fork
tau_set = refl

proposition : value fork (atom (prop 0)) 0 ≡ 2
unfolding value fork
proposition = refl

complement : value fork (atom (nprop 0)) 0 ≡ 1
unfolding value fork
complement = refl

-- ---- or, and, chop
union : value fork (op or (atom (prop 0)) (atom (modal true 1))) 2 ≡ 3
unfolding value fork
union = refl

intersection : value fork (op and (atom (prop 0)) (atom (modal true 1))) 2 ≡ 0
unfolding value fork
intersection = refl

-- ⟨0⟩;p0 is not p0;⟨0⟩
chop_one_way : value fork (op chop (atom (modal true 1)) (atom (prop 0))) 0 ≡ 1
unfolding value fork
chop_one_way = refl

chop_other_way : value fork (op chop (atom (prop 0)) (atom (modal true 1))) 0 ≡ 2
unfolding value fork
chop_other_way = refl

-- chop does not distribute on the right
chop_of_and : value split (op chop (atom (modal true 1)) (op and (atom (prop 0)) (atom (prop 1)))) 7 ≡ 0
unfolding value split
chop_of_and = refl

and_of_chops : value split (op and (op chop (atom (modal true 1)) (atom (prop 0))) (op chop (atom (modal true 1)) (atom (prop 1)))) 7 ≡ 1
unfolding value split
and_of_chops = refl

-- ---- binders

-- μZ.Z is empty and νZ.Z is all
mu_self : value still (fix true 0 (var 0)) 1 ≡ 0
unfolding value still
mu_self = refl

nu_self : value still (fix false 0 (var 0)) 0 ≡ 1
unfolding value still
nu_self = refl

-- μZ. τ or ⟨0⟩;Z, on two states: some way leads into X
mu_reach : value fork (fix true 0 (op or (atom tau) (op chop (atom (modal true 1)) (var 0)))) 2 ≡ 3
unfolding value fork
mu_reach = refl

-- νZ. τ and ⟨0⟩;Z, on two states: a way that never leaves X
nu_stay : value fork (fix false 0 (op and (atom tau) (op chop (atom (modal true 1)) (var 0)))) 3 ≡ 1
unfolding value fork
nu_stay = refl

-- a variable means its innermost binder
inner_binder : value still (fix true 0 (fix false 0 (var 0))) 0 ≡ 1
unfolding value still
inner_binder = refl

-- only monotone functions count: the complement is none, the one above it is all everywhere, the one below it empty
meet-monotone : meet 1 (λ f x. 1 - x) 1 ≡ 1
unfolding meet for_all_fun monotone below contained has set_of for_all both implies
meet-monotone = refl

join-monotone : join 1 (λ f x. 1 - x) 0 ≡ 0
unfolding join for_some_fun for_all_fun monotone below contained has set_of for_all both implies
join-monotone = refl

-- ---- free variables
bound : free 0 (fix true 0 (var 0)) ≡ false
unfolding free both
bound = refl

not_bound : free 1 (fix true 0 (op or (atom tau) (var 1))) ≡ true
unfolding free both either
not_bound = refl

-- ---- approximants and rounds
least_starts_empty : approximant true 1 (λ f. f) 0 1 ≡ 0
unfolding approximant set_of
least_starts_empty = refl

greatest_starts_full : approximant false 1 (λ f. f) 0 0 ≡ 1
unfolding approximant set_of
greatest_starts_full = refl

next_is_body : approximant false 1 (λ f x. 0) 1 0 ≡ 0
unfolding approximant
next_is_body = refl

-- the rule's rounds: 1 for μZ.τ, 0 where the root is no binder
rule : ℕ → Node
rule zero = leaf (atom tau)
rule (suc j) = bind true 0 0

rounds-counted : rounds_at still rule 1 ≡ 1
unfolding still rule rounds_at rounds_of lower rounds first agree approximant set_of for_all both mean mean_atom
rounds-counted = refl

-- n × 2^n are reached: μZ.τ or Z;tt on one state takes 2
rounds_most : rounds true 1 (λ f. mean still (op or (atom tau) (op chop (var 0) (atom top))) (put none 0 f)) ≡ 2
unfolding still rounds first agree approximant set_of for_all both either has mean mean_atom put
rounds_most = refl

rounds_no_binder : rounds_at still rule 0 ≡ 0
unfolding rule rounds_at rounds_of
rounds_no_binder = refl

rule-tree : formula_at rule 1 ≡ fix true 0 (atom tau)
unfolding rule formula_at lower
rule-tree = refl

-- a binder names its body, and not the node that has its variable's number
body-named : Names (bind true 0 3) 3
body-named = refl

-- νY.μX.Y: the own fixed point of X is all states, as Y's is
nested : ℕ → Node
nested zero = leaf (var 1)
nested (suc zero) = bind true 0 0
nested (suc (suc j)) = bind false 1 1

own_nested : own still nested 3 0 0 ≡ 1
unfolding still nested own own_below formula_at lower mean put none meet join for_all_fun for_some_fun monotone below contained has set_of for_all both implies
own_nested = refl

-- ---- what is looked at

-- a proposition, the complement of one, and groups of two actions and of one; {0, 2} is 5, {0, 7} is 129 and {1} is 2
looked-at : vocabulary (op and (atom (prop 0)) (fix true 0 (op or (atom (nprop 2)) (op chop (atom (modal true 129)) (atom (modal false 2))))))
    ≡ record { props = 5; acts = 131 }
unfolding vocabulary first has
looked-at = refl

-- ---- alike states

-- two states; state 0 goes round, state 1 does as the flag says
loops : Bool → Table
unfolding both either
loops b = record { n = 2; label = λ s. 0; step = λ s a t. both (eqb s t) (either (eqb s 0) b) }

same_steps : alike (only_acts 1) (loops true) 0 1 ≡ true
unfolding loops alike bisimilar matching met reduct for_some_fun for_all_fun for_all for_some has both either implies
same_steps = refl

-- the steps of both sides count
only_one_steps : alike (only_acts 1) (loops false) 0 1 ≡ false
unfolding loops alike bisimilar matching met reduct for_some_fun for_all_fun for_all for_some has both either implies
only_one_steps = refl

only_other_steps : alike (only_acts 1) (loops false) 1 0 ≡ false
unfolding loops alike bisimilar matching met reduct for_some_fun for_all_fun for_all for_some has both either implies
only_other_steps = refl

-- a relation that meets the steps of one side only
one_sided : bisimulation (only_acts 1) (loops false) (λ s t. both (eqb s 1) (eqb t 0)) ≡ false
unfolding loops bisimulation matching met reduct for_all for_some has both either implies
one_sided = refl

-- steps by action 7 count if 7 is looked at, and only then
seventh : (alike (only_acts 128) turn 0 1 ≡ false) × (alike (only_acts 126) turn 0 1 ≡ true)
unfolding turn alike bisimilar matching met reduct for_some_fun for_all_fun for_all for_some has both either implies
seventh = (refl, refl)

-- so does proposition 0, which state 1 has
labels : (alike (only_props 1) fork 1 0 ≡ false) × (alike (only_props 254) fork 1 0 ≡ true)
unfolding fork alike bisimilar matching met reduct for_some_fun for_all_fun for_all for_some has both either implies
labels = (refl, refl)

-- ---- sums and lists of numbers
-- 0 + 3 + 6; of the set {0, 2}, how many members it has; 3 * 2 + 3 * 0; 0 and 2 stand once and twice in a list
sums :
    (sum_of 3 (λ i. 3 * i) ≡ 9)
    × (count_of 3 (has 5) ≡ 2)
    × (sum_over (λ i. 3 * i) (2 ∷ 0 ∷ []) ≡ 6)
    × (times 0 (2 ∷ 0 ∷ 2 ∷ []) ≡ 1)
    × (times 2 (2 ∷ 0 ∷ 2 ∷ []) ≡ 2)
unfolding sum_of count_of has sum_over times
sums = (refl, refl, refl, refl, refl)

-- each number below 3 once; one of them twice; another number besides; another number in place of one
each_once :
    (is_permutation 3 (2 ∷ 0 ∷ 1 ∷ []) ≡ true)
    × (is_permutation 3 (2 ∷ 0 ∷ 2 ∷ []) ≡ false)
    × (is_permutation 3 (2 ∷ 0 ∷ 1 ∷ 3 ∷ []) ≡ false)
    × (is_permutation 3 (2 ∷ 0 ∷ 3 ∷ []) ≡ false)
unfolding is_permutation times sum_over for_all both
each_once = (refl, refl, refl, refl)
