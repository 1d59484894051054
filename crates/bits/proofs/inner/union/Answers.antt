-- `bits::inner::union` meets its contract. Assumes nothing.
use Rattle.bits.proofs.Those.{or_is}
use Rattle.bits.proofs.inner.union.Goals as goal

pub returns : goal.returns
returns c = or_is c.args.a c.args.b c.ranges.a.fits c.ranges.b.fits
