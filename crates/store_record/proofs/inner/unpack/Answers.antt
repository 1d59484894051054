-- `store_record::inner::unpack` meets its contract: after i bytes the first 2i squares are the record's. Assumes nothing.
use native.Mathlib.Omega.{arith}
use Rattle.laws.specs.Tables.{tabulate}
use Rattle.store_record.proofs.Records.{squares_none, squares_more, squares_all}
use Rattle.store_record.proofs.inner.unpack.Goals as goal

pub loop-i-init : goal.loop-i-init
unfolding tabulate
loop-i-init c = squares_none c.args.piece.now

pub loop-i-preserved : goal.loop-i-preserved
loop-i-preserved c =
    let l = c.loop-i in
    squares_more c.args.piece.now l.board l.i l.invariant (omega arith)

pub returns : goal.returns
returns c = let l = c.loop-i in squares_all c.args.piece.now l.board l.i (omega arith) l.invariant
