-- `store_sift::take` meets its contract: the loop's invariant is `Turn`. Assumes nothing.
use native.Mathlib.Omega.{arith}
use Rattle.sift_form.specs.Forms.{made_of}
use Rattle.store_sift.specs.Promises.{sift_store}
use Rattle.store_sift.proofs.Turn.{turn_less, turn_counts, turn_on, turn_close, turn_fits, turn_end}
use Rattle.store_sift.proofs.take.Goals as goal

pub overflow_add-loaded-then-cut : goal.overflow_add-loaded-then-cut
overflow_add-loaded-then-cut c =
    let a = c.args in
    let l = c.loop-at in
    let t = c.loop-at-test.true in
    let n = c.next-cut in
    let h = turn_counts a.form (sift_store (made_of a.form) a.state a.piece.now a.chunk.now) a.chunk.now a.made.now
    a.rows.now l.piece l.made l.rows l.held l.loaded l.refused l.made_end l.rows_end l.at t l.invariant n.result
    n.new.piece n.ensures c.if-cut.true in
    record { fits = omega (arith, h) }

pub overflow_add-loaded-then-cut-2 : goal.overflow_add-loaded-then-cut-2
overflow_add-loaded-then-cut-2 c =
    let a = c.args in
    let l = c.loop-at in
    let t = c.loop-at-test.true in
    let n = c.next-cut in
    let k = c.close-closed in
    record {
      fits = (turn_fits a.form (sift_store (made_of a.form) a.state a.piece.now a.chunk.now) a.chunk.now a.made.now
          a.rows.now l.piece l.made l.rows l.held l.loaded l.refused l.made_end l.rows_end l.at t l.invariant n.result
          n.new.piece n.ensures c.if-cut.true k.new.made
          k.new.rows k.result k.ensures).0;
    }

pub overflow_add-refused : goal.overflow_add-refused
overflow_add-refused c =
    let a = c.args in
    let l = c.loop-at in
    let t = c.loop-at-test.true in
    let n = c.next-cut in
    let k = c.close-closed in
    record {
      fits = (turn_fits a.form (sift_store (made_of a.form) a.state a.piece.now a.chunk.now) a.chunk.now a.made.now
          a.rows.now l.piece l.made l.rows l.held l.loaded l.refused l.made_end l.rows_end l.at t l.invariant n.result
          n.new.piece n.ensures c.if-cut.true
          k.new.made k.new.rows k.result k.ensures).1;
    }

pub loop-at-smaller-then-cut : goal.loop-at-smaller-then-cut
loop-at-smaller-then-cut c =
    let a = c.args in
    let l = c.loop-at in
    let t = c.loop-at-test.true in
    let n = c.next-cut in
    let h = turn_less a.form (sift_store (made_of a.form) a.state a.piece.now a.chunk.now) a.chunk.now a.made.now
    a.rows.now l.piece l.made l.rows l.held l.loaded l.refused l.made_end l.rows_end l.at t l.invariant n.result
    n.new.piece n.ensures in
    omega (arith, h, t)

pub loop-at-preserved-then-cut : goal.loop-at-preserved-then-cut
loop-at-preserved-then-cut c =
    let a = c.args in
    let l = c.loop-at in
    let t = c.loop-at-test.true in
    let n = c.next-cut in
    let k = c.close-closed in
    turn_close a.form (sift_store (made_of a.form) a.state a.piece.now a.chunk.now) a.chunk.now a.made.now a.rows.now
    l.piece l.made l.rows l.held l.loaded l.refused l.made_end l.rows_end l.at t l.invariant n.result n.new.piece
    n.ensures c.if-cut.true k.new.made
    k.new.rows k.result k.ensures

pub loop-at-smaller : goal.loop-at-smaller
loop-at-smaller c =
    let a = c.args in
    let l = c.loop-at in
    let t = c.loop-at-test.true in
    let n = c.next-cut in
    let h = turn_less a.form (sift_store (made_of a.form) a.state a.piece.now a.chunk.now) a.chunk.now a.made.now
    a.rows.now l.piece l.made l.rows l.held l.loaded l.refused l.made_end l.rows_end l.at t l.invariant n.result
    n.new.piece n.ensures in
    omega (arith, h, t)

pub loop-at-preserved : goal.loop-at-preserved
loop-at-preserved c =
    let a = c.args in
    let l = c.loop-at in
    let t = c.loop-at-test.true in
    let n = c.next-cut in
    turn_on a.form (sift_store (made_of a.form) a.state a.piece.now a.chunk.now) a.chunk.now a.made.now a.rows.now
    l.piece l.made l.rows l.held l.loaded l.refused l.made_end l.rows_end l.at t l.invariant n.result n.new.piece
    n.ensures c.if-cut.false

pub returns : goal.returns
returns c =
    let a = c.args in
    let l = c.loop-at in
    turn_end a.state a.form a.piece.now a.chunk.now a.made.now a.rows.now l.piece l.made l.rows l.held
    l.loaded l.refused l.made_end l.rows_end l.at c.loop-at-test.false l.invariant
