-- `exchange_start::inner::holds` meets its contract. Assumes nothing.
use mathlib.Core.Path.{sym}
use native.Mathlib.Omega.{arith}
use Rattle.bits.proofs.Digits.{has_high}
use Rattle.bits.proofs.Machine.{asked}
use Rattle.exchange_start.proofs.inner.holds.Goals as goal

pub returns-then-square-gt-LAST : goal.returns-then-square-gt-LAST
returns-then-square-gt-LAST c = sym (has_high c.args.b 64 c.args.square c.ranges.b.fits (omega arith))

pub returns : goal.returns
returns c = asked c.args.b c.args.square
