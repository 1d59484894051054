-- `position_odds::byte_right` meets its contract. Assumes nothing.
use native.Mathlib.Omega.{arith}
use Rattle.position_odds.proofs.Parts.{right_empty, right_piece}
use Rattle.position_odds.proofs.byte_right.Goals as goal

pub returns-then-byte-eq-EMPTY : goal.returns-then-byte-eq-EMPTY
returns-then-byte-eq-EMPTY c =
    let a = c.args in
    right_empty a.bitboards.now a.pieces a.byte a.k c.if-byte-eq-EMPTY.true

pub returns : goal.returns
returns c =
    let a = c.args in
    right_piece a.bitboards.now a.pieces a.byte a.k c.index.result c.if-byte-eq-EMPTY.false (omega arith) (omega arith) c.index.ensures
