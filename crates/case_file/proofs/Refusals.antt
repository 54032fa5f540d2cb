-- What a refusal that is made of its reason replies; and the numbers of refusals are small.
use Prim.Native.Nat.{◌^◌, ◌<◌}
use mathlib.Core.Path.{◌≡◌, ap}
use native.Mathlib.Omega.{arith}
use Rattle.case_model.specs.Replies.{Reply, refuses}
use Rattle.case_file.specs.EnumNumbers.{number}
use Rattle.case_file.specs.declared.reason.Reason.{Reason}
use Rattle.case_file.specs.declared.reason.Reason.TheVariants as reason
use Rattle.case_file.specs.declared.reason.Refusal.{Refusal}

-- place 0
pub of_reason : {A : Type 0} {why : Reason} (r : Refusal) → r ≡ record { reason = why; place = 0 }
    → ◌≡◌ {A = Reply A} (refuses (number r.reason) r.place) (refuses (number why) 0)
of_reason r e = ap (λ (r : Refusal). refuses (number r.reason) r.place) e

-- a number has room between bit 32 and bit 63 of a reply's word
pub number_small : (r : Reason) → number r < 2 ^ 31
number_small reason.Pairs = omega arith
number_small reason.Labels = omega arith
number_small reason.Steps = omega arith
number_small reason.Rule = omega arith
number_small reason.Node = omega arith
number_small reason.Binder = omega arith
number_small reason.Free = omega arith
number_small reason.Beyond = omega arith
number_small reason.Work = omega arith
number_small reason.Unlike = omega arith
number_small reason.Shape = omega arith
number_small reason.TooManyNodes = omega arith
number_small reason.Room = omega arith
number_small reason.Form = omega arith
number_small reason.Table = omega arith
