-- `bits::from_square` meets its contract. Assumes nothing.
use borrow.Author.Tests.{lt-ltb}
use native.Mathlib.Omega.{arith}
use Rattle.bits.proofs.Machine.{alone}
use Rattle.bits.proofs.from_square.Goals as goal

pub returns : goal.returns
returns c = simp (lt-ltb c.args.square 64 (omega arith), alone c.args.square (omega arith))
