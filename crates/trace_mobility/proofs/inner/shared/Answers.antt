-- `trace_mobility::inner::shared` meets its contract. Assumes nothing.
use native.Mathlib.Omega.{arith}
use lib.Bits.{bit_and}
use Rattle.bits.specs.Bitboard.{has}
use Rattle.bits.proofs.Counts.{many_le}
use Rattle.trace_mobility.proofs.inner.shared.Goals as goal

pub returns : goal.returns
returns c = let a = c.args in (c.count.ensures, omega (arith, c.count.ensures, many_le 64 (has (bit_and a.a a.b))))
