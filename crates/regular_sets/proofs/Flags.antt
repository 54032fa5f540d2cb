-- A test that is compared with a flag: the test itself, or its complement.
use mathlib.Core.Bool.{Bool, true, false, not, beq}
use mathlib.Core.Path.{◌≡◌, refl}
use Rattle.flc.specs.Order.{signed}

pub same-signed : (test flag : Bool) → beq test flag ≡ signed flag test
same-signed true true = refl
same-signed true false = refl
same-signed false true = refl
same-signed false false = refl

-- of a test that is known: the flag, or its complement
pub signed_true : (flag : Bool) → signed flag true ≡ flag
signed_true true = refl
signed_true false = refl

pub signed_false : (flag : Bool) → signed flag false ≡ not flag
signed_false true = refl
signed_false false = refl
