-- `regular_sets::bytes::full_byte` meets its contract: none, all, or some of the eight states are there.
use Prim.Native.Nat.{ℕ, ◌-◌, ◌*◌, ◌<◌}
use mathlib.Core.Path.{refl}
use native.Mathlib.Omega.{arith}
use lib.Pow.{pow_mono, pow_pos}
use Rattle.case_reader.proofs.Knowing.{shifted}
use Rattle.regular_sets.proofs.ByteLoops.{full_part}
use Rattle.regular_sets.proofs.bytes.full_byte.Goals as goal

pub returns-then-n-low : goal.returns-then-n-low
returns-then-n-low c =
    full_part c.args.n c.args.i 0 0 refl (omega arith) (λ t h. absurd (omega arith)) (λ t l h. omega (arith, c.if-n-low.true))

pub returns-then-low-n : goal.returns-then-low-n
returns-then-low-n c =
    full_part c.args.n c.args.i 8 255 refl (omega arith) (λ t h. omega (arith, c.if-low-n.true)) (λ t l h. absurd (omega arith))

-- the last case: the states of this byte that are there are fewer than eight
abbrev some_of : goal.Else-low-n → ℕ
some_of c = c.args.n - 8 * c.args.i

few : (c : goal.Else-low-n) → some_of c < 8
few c = omega (arith, c.if-low-n.false)

pub overflow_sub-result-2 : goal.overflow_sub-result-2
overflow_sub-result-2 c = omega (arith, shifted (some_of c) (few c), pow_pos (some_of c))

pub overflow_cast-result : goal.overflow_cast-result
overflow_cast-result c = omega (arith, shifted (some_of c) (few c), pow_mono {i = some_of c} {j = 8} (omega (arith, few c)))

pub returns : goal.returns
returns c =
    let k = some_of c in
    full_part c.args.n c.args.i k _ (omega (arith, shifted k (few c), pow_pos k)) (omega (arith, few c))
    (λ t h. omega (arith, c.if-n-low.false)) (λ t l h. omega (arith, c.if-n-low.false))
