-- `trace::number` meets its contract. Assumes nothing.
use native.Mathlib.Omega.{arith}
use Rattle.score_material.proofs.Pieces.{count_le}
use Rattle.trace.proofs.number.Goals as goal

pub whole-requires : goal.whole-requires
whole-requires c = let a = c.args in omega (arith, c.number.ensures, count_le a.bitboards.now a.kind a.color)
