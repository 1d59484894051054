-- `store_rows::take` meets its contract: the loop's invariant is `Turn`. Assumes nothing.
use mathlib.Core.Bool.{not}
use Prim.Native.Nat.{◌+◌}
use native.Mathlib.Omega.{arith}
use mir.Val.{bool_byte}
use Rattle.ledger_close.proofs.Closed.{closed_adds}
use Rattle.ledger_feed.proofs.Counted.{number_most, tally_number}
use Rattle.store_record.specs.Record.{piece_says}
use Rattle.store_rows.specs.Promises.{run_store}
use Rattle.store_rows.proofs.Turn.{turn_less, turn_one, turn_on, turn_close, turn_end}
use Rattle.store_rows.proofs.take.Goals as goal

pub overflow_add-loaded-then-cut : goal.overflow_add-loaded-then-cut
overflow_add-loaded-then-cut c =
    let a = c.args in
    let l = c.loop-at in
    let n = c.next-cut in
    let e = turn_one (run_store a.state a.piece.now a.chunk.now) a.chunk.now a.out.now l.piece l.out l.held l.loaded
    l.refused l.wrote l.at c.loop-at-test.true l.invariant n.result n.new.piece n.ensures c.if-cut.true in
    record { fits = omega (arith, l.invariant.counts) }

pub overflow_add-loaded-then-cut-2 : goal.overflow_add-loaded-then-cut-2
overflow_add-loaded-then-cut-2 c =
    let a = c.args in
    let l = c.loop-at in
    let n = c.next-cut in
    let e = turn_one (run_store a.state a.piece.now a.chunk.now) a.chunk.now a.out.now l.piece l.out l.held l.loaded
    l.refused l.wrote l.at c.loop-at-test.true l.invariant n.result n.new.piece n.ensures c.if-cut.true in
    let is = c.row-row.result.loaded in
    record { fits = omega (arith, l.invariant.counts, number_most is, number_most (not is)) }

pub overflow_add-refused : goal.overflow_add-refused
overflow_add-refused c =
    let a = c.args in
    let l = c.loop-at in
    let n = c.next-cut in
    let e = turn_one (run_store a.state a.piece.now a.chunk.now) a.chunk.now a.out.now l.piece l.out l.held l.loaded
    l.refused l.wrote l.at c.loop-at-test.true l.invariant n.result n.new.piece n.ensures c.if-cut.true in
    let is = c.row-row.result.loaded in
    record { fits = omega (arith, l.invariant.counts, number_most is, number_most (not is)) }

pub loop-at-smaller-then-cut : goal.loop-at-smaller-then-cut
loop-at-smaller-then-cut c =
    let a = c.args in
    let l = c.loop-at in
    let n = c.next-cut in
    let h = turn_less (run_store a.state a.piece.now a.chunk.now) a.chunk.now a.out.now l.piece l.out l.held l.loaded
    l.refused l.wrote l.at c.loop-at-test.true l.invariant n.result n.new.piece n.ensures in
    omega (arith, h)

pub loop-at-preserved-then-cut : goal.loop-at-preserved-then-cut
loop-at-preserved-then-cut c =
    let a = c.args in
    let l = c.loop-at in
    let n = c.next-cut in
    let k = c.row-row in
    turn_close (run_store a.state a.piece.now a.chunk.now) a.chunk.now a.out.now l.piece l.out l.held l.loaded
    l.refused l.wrote l.at c.loop-at-test.true l.invariant n.result n.new.piece n.ensures
    c.if-cut.true k.new.out c.unwrap_or-wrote.result
    (closed_adds (l.loaded + l.refused + 1) l.out k.new.out l.wrote (piece_says n.new.piece) k.result k.ensures
    c.unwrap_or-wrote.result c.unwrap_or-wrote.ensures)
    k.result.loaded k.ensures.loaded (l.loaded + bool_byte k.result.loaded) (l.refused + bool_byte (not k.result.loaded))
    (tally_number k.result.loaded l.loaded) (tally_number (not k.result.loaded) l.refused)

pub loop-at-smaller : goal.loop-at-smaller
loop-at-smaller c =
    let a = c.args in
    let l = c.loop-at in
    let n = c.next-cut in
    let h = turn_less (run_store a.state a.piece.now a.chunk.now) a.chunk.now a.out.now l.piece l.out l.held l.loaded
    l.refused l.wrote l.at c.loop-at-test.true l.invariant n.result n.new.piece n.ensures in
    omega (arith, h)

pub loop-at-preserved : goal.loop-at-preserved
loop-at-preserved c =
    let a = c.args in
    let l = c.loop-at in
    let n = c.next-cut in
    turn_on (run_store a.state a.piece.now a.chunk.now) a.chunk.now a.out.now l.piece l.out l.held l.loaded
    l.refused l.wrote l.at c.loop-at-test.true l.invariant n.result n.new.piece n.ensures c.if-cut.false

pub returns : goal.returns
returns c =
    let a = c.args in
    let l = c.loop-at in
    turn_end a.state a.piece.now a.chunk.now a.out.now l.piece l.out l.held l.loaded l.refused l.wrote l.at
    (omega arith) l.invariant
    c.made.result c.made.ensures
