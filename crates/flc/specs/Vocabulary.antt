-- What a rule looks at, and what is left of a state table if nothing else counts: docs/SPECIFICATION.md, clauses 4.1, 4.9 and 4.10.
use Rattle.std.specs.Prelude.{ℕ, T}
use Rattle.std.specs.Int.Bits.{bit_and, bit_or}
use Rattle.flc.specs.Sets.{both, has, singleton}
use Rattle.flc.specs.Formula.{Table, Formula, top, bottom, tau, prop, nprop, modal, atom, var, op, fix}

-- clause 4.9: two sets, of propositions and of actions
pub record Vocabulary : Type 0 where
  pub props : ℕ
  pub acts : ℕ

-- neither; propositions alone, actions alone; what either of two has
abbrev pub nothing : Vocabulary
nothing = record { props = 0; acts = 0 }

abbrev pub only_props : ℕ → Vocabulary
only_props x = record { props = x; acts = 0 }

abbrev pub only_acts : ℕ → Vocabulary
only_acts x = record { props = 0; acts = x }

abbrev pub union : Vocabulary → Vocabulary → Vocabulary
union U W = record { props = bit_or U.props W.props; acts = bit_or U.acts W.acts }

-- clause 4.9: what a rule looks at: a proposition where it or its complement stands, an action where a group stands that has it
unfoldable pub vocabulary : Formula → Vocabulary
vocabulary (atom top) = nothing
vocabulary (atom bottom) = nothing
vocabulary (atom tau) = nothing
vocabulary (atom (prop i)) = only_props (singleton i)
vocabulary (atom (nprop i)) = only_props (singleton i)
vocabulary (atom (modal d g)) = only_acts g
vocabulary (var v) = nothing
vocabulary (op o p q) = union (vocabulary p) (vocabulary q)
vocabulary (fix d v p) = vocabulary p

-- clause 4.10: U looks no further than W: what it has, W has too
pub record Included (U W : Vocabulary) : Type 0 where
  pub props : (i : ℕ) → T (has U.props i) → T (has W.props i)
  pub acts : (a : ℕ) → T (has U.acts a) → T (has W.acts a)

-- clause 4.1: what W lets be seen of a table: of each label the propositions in W, and the steps whose action is in W
unfoldable pub reduct : Vocabulary → Table → Table
reduct W L = record {
  n = L.n;
  label = λ s. bit_and (L.label s) W.props;
  step = λ s a t. both (has W.acts a) (L.step s a t);
}
