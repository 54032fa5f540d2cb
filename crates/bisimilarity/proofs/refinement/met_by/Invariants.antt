-- `bisimilarity::refinement::met_by` meets its contract. The loop's invariant: the test of the states below u; as masks it is that of the sets.
use mathlib.Core.Bool.{not}
use mathlib.Core.Path.{◌≡◌}
use Prim.Native.Nat.{◌≤◌}
use lib.Bits.{bit_and}
use lib.Dec.{eqb}
use lib.ListN.{get_or}
use Rattle.flc.specs.Sets.{implies, for_all, has}
use Rattle.bisimilarity.proofs.refinement.met_by.Given as goal

abbrev pub invariant-loop-u : goal.invariant-loop-u
invariant-loop-u l = (l.u ≤ l.n) × (l.all ≡ for_all l.u (λ v. implies (has l.from v) (not (eqb (bit_and l.to (get_or l.rows v 0)) 0))))
