-- `store_record::write_record` meets its contract. Assumes nothing.
use Rattle.refusal.proofs.Paper.{error_is}
use Rattle.store_record.proofs.Doors.{turned, no_result, no_place, done}
use Rattle.store_record.proofs.write_record.Goals as goal

pub returns-in_err-check : goal.returns-in_err-check
returns-in_err-check c =
    let a = c.args in
    turned a.bitboards.now a.board.now a.state a.half a.place.now c.check.result c.check.ensures
    _ c.in_err-check.was c.from_residual.result (error_is _ _ c.from_residual.ensures)

pub returns-then-half-ge-NO_RESULT : goal.returns-then-half-ge-NO_RESULT
returns-then-half-ge-NO_RESULT c =
    let a = c.args in
    no_result a.bitboards.now a.board.now a.state a.half a.place.now c.check.result c.check.ensures
    c.in_ok-check.was c.if-half-ge-NO_RESULT.true

pub returns-then-place-ne-RECORD : goal.returns-then-place-ne-RECORD
returns-then-place-ne-RECORD c =
    let a = c.args in
    no_place a.bitboards.now a.board.now a.state a.half a.place.now c.check.result c.check.ensures
    c.in_ok-check.was c.if-half-ge-NO_RESULT.false c.if-place-ne-RECORD.true

pub returns : goal.returns
returns c =
    let a = c.args in
    done a.bitboards.now a.board.now a.state a.half a.place.now c.check.result c.check.ensures c.in_ok-check.was
    c.if-half-ge-NO_RESULT.false c.if-place-ne-RECORD.false c.pack-record.result c.put.new.out c.pack-record.ensures c.put.ensures.1
