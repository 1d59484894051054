-- `exchange::inner::without` meets its contract. Assumes nothing.
use native.Mathlib.Omega.{arith}
use Rattle.bits.proofs.Machine.{take_away}
use Rattle.exchange.specs.Exchange.{emptied}
use Rattle.exchange.proofs.Forward.{off_board}
use Rattle.exchange.proofs.inner.without.Goals as goal

pub returns-then-square-gt-LAST : goal.returns-then-square-gt-LAST
returns-then-square-gt-LAST c = off_board c.args.b c.args.square c.ranges.b.fits c.if-square-gt-LAST.true

pub returns : goal.returns
unfolding emptied
returns c = take_away c.args.b c.args.square c.ranges.b.fits (omega arith)
