-- The recursion over nodes with one set for each node: what its functions ask for and what they leave. The private contracts of code cite these.
-- The blocks B say which set is held for each node. What is active is a set: the variables whose binders are being computed, with marks beyond them.
use Rattle.std.specs.Prelude.{ℕ, suc, ◌^◌, ◌≤◌, ◌<◌, Bool, true, ◌≡◌, T, eqb}
use Rattle.std.specs.Int.Bits.{bit_or}
use Rattle.flc.specs.Sets.{both, either, has, set_of}
use Rattle.flc.specs.Formula.{Table, Atom, modal, or, and, chop, Formula, atom, var, op, fix, mean_atom}
use Rattle.flc.specs.Nodes.{Node, leaf, two, bind, formula_at}
use Rattle.flc.specs.Order.{Sub}
use Rattle.flc.specs.Iterates.{iterate}
use Rattle.regular_model.specs.Values.{given, constant_of, modality_of, value, Climbing}

-- a state table, m nodes, the binder of each variable, and what each node depends on
pub record Frame : Type 0 where
  pub L : Table
  pub N : ℕ → Node
  pub m : ℕ
  pub home : ℕ → ℕ
  pub scope : ℕ → ℕ

-- v beside what is active
abbrev pub wide : ℕ → ℕ → ℕ
wide act v = bit_or act (2 ^ v)

-- node j depends only on what is active
abbrev pub Within : Frame → ℕ → ℕ → Type 0
Within F j act = Sub true 18 (F.scope j) act

-- ---- the set of one node, from those of the nodes that it names
abbrev pub modality_at : Node → Atom
modality_at (leaf p) = modality_of p
modality_at (two o a b) = modal true 0
modality_at (bind d v b) = modal true 0

abbrev pub of_leaf : Table → Formula → (ℕ → ℕ) → ℕ
of_leaf L (atom a) c = mean_atom L (constant_of a) 0
of_leaf L (var v) c = c v
of_leaf L (op o p q) c = 0
of_leaf L (fix d v p) c = 0

abbrev pub made : Frame → Node → (ℕ → ℕ) → ℕ
made F (leaf p) B = of_leaf F.L p (λ v. B (F.home v))
made F (two or a b) B = set_of F.L.n (λ s. either (has (B a) s) (has (B b) s))
made F (two and a b) B = set_of F.L.n (λ s. both (has (B a) s) (has (B b) s))
made F (two chop a b) B = mean_atom F.L (modality_at (F.N a)) (B b)
made F (bind d v b) B = B b

-- ---- blocks
-- each block is a set of n states
abbrev pub Sets : Frame → (ℕ → ℕ) → Type 0
Sets F B = (i : ℕ) → B i < 2 ^ F.L.n

-- c is what the binders of the active variables hold
abbrev pub Matches : Frame → (ℕ → ℕ) → ℕ → (ℕ → ℕ) → Type 0
Matches F c act B = (v : ℕ) → v < 16 → T (has act v) → B (F.home v) ≡ c v

-- block j is the set of node j, with c for the variables ..
abbrev pub RightAt : Frame → (ℕ → ℕ) → (ℕ → ℕ) → ℕ → Type 0
RightAt F c B j = B j ≡ value F.L (formula_at F.N j) c

-- .. and so for all nodes below k that depend only on what is active
abbrev pub Right : Frame → (ℕ → ℕ) → ℕ → (ℕ → ℕ) → ℕ → Type 0
Right F c act B k = (i : ℕ) → i < k → Within F i act → RightAt F c B i

-- Q held of sets below c, in the order of the flag
pub record Older (F : Frame) (d : Bool) (c : ℕ → ℕ) (Q : (ℕ → ℕ) → Type 0) : Type 0 where
  pub sets : ℕ → ℕ
  pub small : (v : ℕ) → sets v < 2 ^ F.L.n
  pub below : (v : ℕ) → Sub d F.L.n (sets v) (c v)
  pub held : Q sets

-- since Q held, the sets moved only as those of a binder do that moves in the direction `grown`: up (1) for μ, down (2) for ν; 0 if nothing is known
abbrev pub Grown : Frame → ℕ → (ℕ → ℕ) → ((ℕ → ℕ) → Type 0) → Type 0
Grown F grown c Q = 0 < grown → Older F (eqb grown 1) c Q

-- ---- the functions
-- before the nodes below k are computed
pub record Ready (F : Frame) (B : ℕ → ℕ) (k : ℕ) (act : ℕ) : Type 0 where
  pub below : k ≤ F.m
  pub small : Sets F B
  pub active : (v : ℕ) → v < 16 → T (has act v) → (k ≤ F.home v) × (F.home v < F.m)

-- the nodes from k on keep their blocks
pub record Kept (F : Frame) (B C : ℕ → ℕ) (k : ℕ) : Type 0 where
  pub small : Sets F C
  pub above : (i : ℕ) → k ≤ i → C i ≡ B i

-- the nodes below k were computed that depend only on what is active, and not only on the old
pub record Refreshed (F : Frame) (B C : ℕ → ℕ) (k : ℕ) (old act : ℕ) (grown : ℕ) : Type 0 where
  pub kept : Kept F B C k
  pub right : (c : ℕ → ℕ) → ((v : ℕ) → c v < 2 ^ F.L.n) → Matches F c act B → Right F c old B k
      → Grown F grown c (λ e. Right F e act B k) → Right F c act C k

-- node j was computed
pub record Computed (F : Frame) (B C : ℕ → ℕ) (j : ℕ) (act : ℕ) (grown : ℕ) : Type 0 where
  pub kept : Kept F B C (suc j)
  pub right : (c : ℕ → ℕ) → ((v : ℕ) → c v < 2 ^ F.L.n) → Matches F c act B → Right F c act B j
      → Grown F grown c (λ e. RightAt F e B j) → Right F c act C (suc j)

-- ---- the loop of binder j
abbrev pub body_of : Frame → (ℕ → ℕ) → ℕ → ℕ → ℕ → ℕ
body_of F c v b s = value F.L (formula_at F.N b) (given c v s)

-- block j was given the set s
pub record Placed (B C : ℕ → ℕ) (j s : ℕ) : Type 0 where
  pub inside : C j ≡ s
  pub outside : (i : ℕ) → (i ≡ j → ⊥) → C i ≡ B i

-- after r rounds from the set s, with c for the variables
pub record Turned (F : Frame) (c : ℕ → ℕ) (act : ℕ) (B : ℕ → ℕ) (j v b s r grown : ℕ) : Type 0 where
  pub right : Right F c act B j
  pub now : B j ≡ iterate (body_of F c v b) s r
  pub older : Grown F grown (given c v (iterate (body_of F c v b) s r)) (λ e. Right F e (wide act v) B j)

-- the invariant of the loop: it began with the blocks B, and has come to C in r rounds; grown is 0 before the first round, then the binder's direction
pub record Turning (F : Frame) (B C : ℕ → ℕ) (j : ℕ) (act : ℕ) (d : Bool) (v b r grown : ℕ) : Type 0 where
  pub kept : Kept F B C (suc j)
  pub turned : (c : ℕ → ℕ) → ((v : ℕ) → c v < 2 ^ F.L.n) → Matches F c act B → Right F c act B j
      → Climbing d F.L.n (body_of F c v b) (B j) → Turned F c act C j v b (B j) r grown
