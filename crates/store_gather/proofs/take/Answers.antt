-- `store_gather::take` meets its contract: the loop's invariant is `Turn`. Assumes nothing.
use native.Mathlib.Omega.{arith}
use Rattle.store_gather.specs.Promises.{run_gather}
use Rattle.store_gather.proofs.Pieces.{turn_less, turn_on, turn_close, turn_end}
use Rattle.store_gather.proofs.take.Goals as goal

pub loop-at-smaller-then-cut : goal.loop-at-smaller-then-cut
loop-at-smaller-then-cut c =
    let a = c.args in
    let l = c.loop-at in
    let n = c.next-cut in
    let h = turn_less (run_gather a.state a.piece.now a.chunk.now a.summary.now) a.chunk.now l.piece l.summary l.held
    l.number l.refusal l.at l.invariant n.result n.new.piece n.ensures c.loop-at-test.true in
    omega (arith, h)

pub loop-at-preserved-then-cut : goal.loop-at-preserved-then-cut
loop-at-preserved-then-cut c =
    let a = c.args in
    let l = c.loop-at in
    let n = c.next-cut in
    turn_close (run_gather a.state a.piece.now a.chunk.now a.summary.now) a.chunk.now l.piece l.summary l.held
    l.number l.refusal l.at l.invariant n.result n.new.piece n.ensures
    c.if-cut.true c.count_piece-first.result c.count_piece-first.new.summary c.count_piece-first.ensures

pub loop-at-smaller : goal.loop-at-smaller
loop-at-smaller c =
    let a = c.args in
    let l = c.loop-at in
    let n = c.next-cut in
    let h = turn_less (run_gather a.state a.piece.now a.chunk.now a.summary.now) a.chunk.now l.piece l.summary l.held
    l.number l.refusal l.at l.invariant n.result n.new.piece n.ensures c.loop-at-test.true in
    omega (arith, h)

pub loop-at-preserved : goal.loop-at-preserved
loop-at-preserved c =
    let a = c.args in
    let l = c.loop-at in
    let n = c.next-cut in
    turn_on (run_gather a.state a.piece.now a.chunk.now a.summary.now) a.chunk.now l.piece l.summary l.held l.number
    l.refusal l.at l.invariant n.result n.new.piece n.ensures c.if-cut.false

pub returns : goal.returns
returns c =
    let a = c.args in
    let l = c.loop-at in
    turn_end a.state a.piece.now a.chunk.now a.summary.now l.piece l.summary l.held l.number l.refusal l.at
    (omega arith) l.invariant
