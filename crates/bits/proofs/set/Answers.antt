-- `bits::set` meets its contract. Assumes nothing.
use borrow.Author.Tests.{lt-ltb}
use native.Mathlib.Omega.{arith}
use Rattle.bits.proofs.Machine.{put}
use Rattle.bits.proofs.set.Goals as goal

pub returns : goal.returns
returns c = simp (
  lt-ltb c.args.square 64 (omega arith),
  put c.args.b c.args.square c.ranges.b.fits (omega arith),
)
