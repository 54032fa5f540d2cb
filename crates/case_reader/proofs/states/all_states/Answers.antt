-- `case_reader::states::all_states` meets its contract: for at most 16 states the shift loses no bit, and 2 ^ n - 1 is the set of all n.
use native.Mathlib.Omega.{arith}
use Prim.Native.Nat.{ℕ, ◌%◌, ◌^◌, ◌≤◌}
use mathlib.Core.Path.{◌≡◌, sym}
use native.Mathlib.Nat.{one-mul, mod-eq_of_lt}
use lib.Pow.{pow_mono}
use Rattle.flc.proofs.Masks.{set_all}
use Rattle.case_model.specs.Limits.{most_states}
use Rattle.case_reader.proofs.states.all_states.Goals as goal

shifted : (n : ℕ) → n ≤ most_states → 2 ^ n % 2 ^ 64 ≡ 2 ^ n
shifted n few = mod-eq_of_lt (omega (arith, pow_mono {i = n} {j = 16} few))

pub returns-then-n-le16 : goal.returns-then-n-le16
returns-then-n-le16 c = λ few. rw (one-mul, shifted _ few) (sym (set_all c.args.n))
