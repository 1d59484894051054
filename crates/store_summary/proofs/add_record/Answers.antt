-- `store_summary::add_record` meets its contract. Assumes nothing.
use mathlib.Core.Path.{sym, subst}
use Rattle.std.specs.Prelude.{Result}
use Rattle.refusal.specs.declared.Refusal.{Refusal}
use Rattle.refusal.proofs.Paper.{error_is}
use Rattle.store_summary.specs.Promises.{AddsRecord}
use Rattle.store_summary.proofs.Doors.{add_shape, add_position, add_length, add_many, add_room, add_done}
use Rattle.store_summary.proofs.add_record.Goals as goal

pub returns-then-summary-ne-SUMMARY : goal.returns-then-summary-ne-SUMMARY
returns-then-summary-ne-SUMMARY c =
    let a = c.args in
    add_shape a.bitboards.now a.board.now a.state a.half a.run.now a.summary.now c.if-summary-ne-SUMMARY.true

pub returns-in_err-prepared : goal.returns-in_err-prepared
returns-in_err-prepared c =
    let a = c.args in
    subst (λ (r : Result Unit Refusal). AddsRecord a.bitboards.now a.board.now a.state a.half a.run.now a.summary.now r a.run.now a.summary.now)
    (sym (error_is _ _ c.from_residual.ensures))
    (add_position a.bitboards.now a.board.now a.state a.half a.run.now a.summary.now c.if-summary-ne-SUMMARY.false c.prepare-prepared.result
    c.prepare-prepared.ensures _ c.in_err-prepared.was)

pub returns-then-run-ne0 : goal.returns-then-run-ne0
returns-then-run-ne0 c =
    let a = c.args in
    add_length a.bitboards.now a.board.now a.state a.half a.run.now a.summary.now c.if-summary-ne-SUMMARY.false c.prepare-prepared.result
    c.prepare-prepared.ensures c.in_ok-prepared.was c.if-run-ne0.true

pub returns-then-records-ge-MOST : goal.returns-then-records-ge-MOST
returns-then-records-ge-MOST c =
    let a = c.args in
    add_many a.bitboards.now a.board.now a.state a.half a.run.now a.summary.now c.if-summary-ne-SUMMARY.false c.prepare-prepared.result
    c.prepare-prepared.ensures c.in_ok-prepared.was c.if-run-ne0.false c.if-records-ge-MOST.true

pub returns-then-records-run : goal.returns-then-records-run
returns-then-records-run c =
    let a = c.args in
    add_room a.bitboards.now a.board.now a.state a.half a.run.now a.summary.now c.if-summary-ne-SUMMARY.false c.prepare-prepared.result
    c.prepare-prepared.ensures c.in_ok-prepared.was c.if-run-ne0.false c.if-records-ge-MOST.false c.if-records-run.true

pub returns : goal.returns
returns c =
    let a = c.args in
    add_done a.bitboards.now a.board.now a.state a.half a.run.now a.summary.now c.if-summary-ne-SUMMARY.false c.prepare-prepared.result
    c.prepare-prepared.ensures c.in_ok-prepared.was c.if-run-ne0.false c.if-records-ge-MOST.false c.if-records-run.false c.keep.new.run c.keep.new.summary
    c.keep.ensures
