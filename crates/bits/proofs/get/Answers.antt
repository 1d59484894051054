-- `bits::get` meets its contract. Assumes nothing.
use borrow.Author.Tests.{lt-ltb}
use native.Mathlib.Omega.{arith}
use Rattle.bits.proofs.Machine.{asked}
use Rattle.bits.proofs.get.Goals as goal

pub returns : goal.returns
returns c = simp (lt-ltb c.args.square 64 (omega arith), asked c.args.b c.args.square)
