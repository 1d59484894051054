-- `trace::total` meets its contract. Assumes nothing.
use native.Mathlib.Omega.{arith}
use Rattle.bits.specs.Bitboard.{has}
use Rattle.bits.proofs.Counts.{many_le}
use Rattle.trace.proofs.Counted.{held_number, pieces_of}
use Rattle.trace.proofs.total.Goals as goal

pub whole-requires : goal.whole-requires
whole-requires c = omega (arith, c.count.ensures, many_le 64 (has c.occupied.result))

pub returns : goal.returns
returns c =
    let n = c.count.result in
    let a = c.args in
    held_number c.whole.result n _ c.whole.ensures (omega (arith, c.count.ensures, many_le 64 (has c.occupied.result)))
    (pieces_of a.bitboards.now c.occupied.result n c.count.ensures c.occupied.ensures)
