-- The nine laws, and rewriting: docs/SPECIFICATION.md, section 5, with refusals 11 to 13.
use Rattle.std.specs.Prelude.{ℕ, suc, ◌+◌, ◌-◌, Bool, true, false, ◌&&◌, ◌||◌, cond, List, [], ◌∷◌, ◌++◌, map, eqb, leb, ltb, length, get_or, take, drop}
use Rattle.flc.specs.Formula.{or, and, chop}
use Rattle.flc.specs.Nodes.{Node, leaf, two, bind}
use Rattle.case_model.specs.Case.{Case, write, at}
use Rattle.case_model.specs.Kinds.{Triple, kind_of, kind_of_tau, last_constant, node_of}
use Rattle.case_model.specs.Rows.{Found, ◌or_else◌, unless}
use Rattle.case_model.specs.Limits.{most_nodes, standard}
use Rattle.case_model.specs.Replies.{Reply, replying, row13}

-- what a law does at node j: nothing, or node j gives way to some nodes and the nodes that others name are renamed
pub data Change : Type 0 where
  nothing : Change
  swap : List Triple → (ℕ → ℕ) → Change

-- clause 5.2: k in place of j
abbrev pub redirected : ℕ → ℕ → ℕ → ℕ
redirected j k i = cond (eqb i j) k i

-- clause 5.3: j and the numbers above it rise by d
abbrev pub shifted : ℕ → ℕ → ℕ → ℕ
shifted j d i = cond (ltb i j) i (i + d)

-- clause 5.1: laws 1 to 9, in order, at node j = (k, a, b), which names x first and y second
abbrev pub laws_at : ℕ → Triple → Triple → Triple → List Change
laws_at j (k, a, b) x y =
    let is_chop : Bool = eqb k (kind_of chop) in
    let is_pair : Bool = eqb k (kind_of or) || eqb k (kind_of and) in
    let chopped : ℕ → ℕ → Triple = λ p q. (kind_of chop, p, q) in
    let redirect : ℕ → Change = λ i. swap ((k, a, b) ∷ []) (redirected j i) in
    let insert : List Triple → Change = λ l. swap l (shifted j (length l - 1)) in
    let given : Bool → Change → Change = λ t e. cond t e nothing in
    given (is_chop && eqb x.0 kind_of_tau) (redirect b)
    ∷ given (is_chop && eqb y.0 kind_of_tau) (redirect a)
    ∷ given (is_chop && leb x.0 last_constant) (redirect a)
    ∷ given (is_chop && eqb x.0 (kind_of chop)) (insert (chopped x.2 b ∷ chopped x.1 j ∷ []))
    ∷ given (is_chop && eqb y.0 (kind_of chop)) (insert (chopped a y.1 ∷ chopped j y.2 ∷ []))
    ∷ given (is_chop && eqb x.0 (kind_of or)) (insert (chopped x.1 b ∷ chopped x.2 b ∷ (kind_of or, j, suc j) ∷ []))
    ∷ given (is_chop && eqb x.0 (kind_of and)) (insert (chopped x.1 b ∷ chopped x.2 b ∷ (kind_of and, j, suc j) ∷ []))
    ∷ given (is_pair && eqb a b) (redirect a)
    ∷ given is_pair (insert ((k, b, a) ∷ []))
    ∷ []

-- clause 8.11: law 0, laws above 9 and nodes beyond the rule change nothing: a node past the end reads as tt
unfoldable pub change : List Triple → ℕ → ℕ → Change
change N law j = get_or (nothing ∷ laws_at j (at N j) (at N (at N j).1) (at N (at N j).2)) law nothing

abbrev pub is_there : Change → Bool
is_there nothing = false
is_there (swap l g) = true

-- a node with the nodes that it names renamed: both operands of an operator, the second of a binder
abbrev pub first_renamed : Node → (ℕ → ℕ) → ℕ → ℕ
first_renamed (leaf p) g x = x
first_renamed (two o a b) g x = g x
first_renamed (bind d v b) g x = x

abbrev pub second_renamed : Node → (ℕ → ℕ) → ℕ → ℕ
second_renamed (leaf p) g x = x
second_renamed (two o a b) g x = g x
second_renamed (bind d v b) g x = g x

abbrev pub renamed : (ℕ → ℕ) → Triple → Triple
renamed g t = (t.0, first_renamed (node_of t) g t.1, second_renamed (node_of t) g t.2)

-- clauses 5.2, 5.3, 5.4 and 5.7: the rewritten case
unfoldable pub rewrite : Case → ℕ → Change → Case
rewrite c j nothing = c
rewrite c j (swap l g) = record {
  labels = c.labels;
  steps = c.steps;
  nodes = map (renamed g) (take j c.nodes) ++ (l ++ map (renamed g) (drop (suc j) c.nodes));
  root = g c.root;
  starts = c.starts;
}

-- clause 5.1: the case that a law makes at node j
abbrev pub rewritten : ℕ → ℕ → Case → Case
rewritten law j c = rewrite c j (change c.nodes law j)

-- clauses 8.11 and 8.12: the law's shape is there, and the nodes are then not too many
abbrev pub row11 : ℕ → ℕ → Case → Found
row11 law j c = unless (is_there (change c.nodes law j)) 11 0

abbrev pub row12 : Case → Found
row12 new = unless (leb (length new.nodes) most_nodes) 12 0

-- clauses 5.1 and 7.4: refusals 1 to 7 and 11 to 13, or the new file
unfoldable pub rewriting : List ℕ → ℕ → ℕ → ℕ → Reply (List ℕ)
rewriting f law j room =
    replying standard f
    (λ c. row11 law j c or_else row12 (rewritten law j c) or_else row13 (write (rewritten law j c)) room)
    (λ c. write (rewritten law j c))
