-- `store_record::inner::read` meets its contract. Assumes nothing.
use borrow.Author.Tests.{not-true, not-false}
use Rattle.store_record.proofs.Answers.{bad_length, bad_code, bad_side, bad_result, good}
use Rattle.store_record.proofs.inner.read.Goals as goal

pub returns-then-piece-ne-RECORD : goal.returns-then-piece-ne-RECORD
returns-then-piece-ne-RECORD c = bad_length c.args.piece.now c.refused.result c.refused.ensures c.if-piece-ne-RECORD.true

pub returns-then-not-made : goal.returns-then-not-made
returns-then-not-made c =
    bad_code c.args.piece.now c.if-piece-ne-RECORD.false c.unpack-board.result c.unpack-board.ensures c.bitboards_of-made.result
    c.bitboards_of-made.ensures (not-true _ c.if-not-made.true)
    c.lowest_stray.result c.lowest_stray.ensures c.refused-then-not-made.result c.refused-then-not-made.ensures

pub returns-then-side-ge-NO_SIDE : goal.returns-then-side-ge-NO_SIDE
returns-then-side-ge-NO_SIDE c =
    bad_side c.args.piece.now c.if-piece-ne-RECORD.false c.unpack-board.result c.unpack-board.ensures c.bitboards_of-made.result
    c.bitboards_of-made.ensures (not-false _ c.if-not-made.false)
    c.refused-then-side-ge-NO_SIDE.result c.refused-then-side-ge-NO_SIDE.ensures c.if-side-ge-NO_SIDE.true

pub returns-then-half-ge-NO_RESULT : goal.returns-then-half-ge-NO_RESULT
returns-then-half-ge-NO_RESULT c =
    bad_result c.args.piece.now c.if-piece-ne-RECORD.false c.unpack-board.result c.unpack-board.ensures c.bitboards_of-made.result
    c.bitboards_of-made.ensures (not-false _ c.if-not-made.false)
    c.if-side-ge-NO_SIDE.false c.refused-then-half-ge-NO_RESULT.result c.refused-then-half-ge-NO_RESULT.ensures c.if-half-ge-NO_RESULT.true

pub returns : goal.returns
returns c =
    good c.args.piece.now c.if-piece-ne-RECORD.false c.unpack-board.result c.unpack-board.ensures c.bitboards_of-made.result
    c.bitboards_of-made.ensures (not-false _ c.if-not-made.false)
    c.if-side-ge-NO_SIDE.false c.if-half-ge-NO_RESULT.false c.of_side.result c.of_side.ensures
