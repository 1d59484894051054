-- `bits::count` meets its contract. Assumes nothing.
use Rattle.bits.proofs.Counts.{ones_many}
use Rattle.bits.proofs.count.Goals as goal

pub returns : goal.returns
returns c = ones_many 64 c.args.b c.ranges.b.fits
