-- `sift_feed::take` meets its contract: the loop's invariant is `Turn`. Assumes nothing.
use native.Mathlib.Omega.{arith}
use Rattle.sift_form.specs.Forms.{made_of}
use Rattle.sift_feed.specs.Sifting.{sift_run}
use Rattle.sift_feed.proofs.Turn.{turn_less, turn_counts, turn_on, turn_close, turn_fits, turn_end}
use Rattle.sift_feed.proofs.take.Goals as goal

pub overflow_add-loaded-then-cut : goal.overflow_add-loaded-then-cut
overflow_add-loaded-then-cut c =
    let a = c.args in
    let l = c.loop-at in
    let t = c.loop-at-test.true in
    let n = c.next-cut in
    let h = turn_counts a.form (sift_run (made_of a.form) a.state a.line.now a.chunk.now) a.chunk.now a.made.now
    a.rows.now l.line l.made l.rows l.begun l.loaded l.refused l.made_end l.rows_end l.at t l.invariant n.result
    n.new.line n.ensures c.if-cut.true in
    record { fits = omega (arith, h) }

pub overflow_add-loaded-then-cut-2 : goal.overflow_add-loaded-then-cut-2
overflow_add-loaded-then-cut-2 c =
    let a = c.args in
    let l = c.loop-at in
    let t = c.loop-at-test.true in
    let n = c.next-cut in
    let k = c.close-closed in
    let h = turn_fits a.form (sift_run (made_of a.form) a.state a.line.now a.chunk.now) a.chunk.now a.made.now
    a.rows.now l.line l.made l.rows l.begun l.loaded l.refused l.made_end l.rows_end l.at t l.invariant n.result
    n.new.line n.ensures c.if-cut.true k.new.made k.new.rows k.result k.ensures in
    record { fits = h.0 }

pub overflow_add-refused : goal.overflow_add-refused
overflow_add-refused c =
    let a = c.args in
    let l = c.loop-at in
    let t = c.loop-at-test.true in
    let n = c.next-cut in
    let k = c.close-closed in
    let h = turn_fits a.form (sift_run (made_of a.form) a.state a.line.now a.chunk.now) a.chunk.now a.made.now
    a.rows.now l.line l.made l.rows l.begun l.loaded l.refused l.made_end l.rows_end l.at t l.invariant n.result
    n.new.line n.ensures c.if-cut.true k.new.made k.new.rows k.result k.ensures in
    record { fits = h.1 }

pub loop-at-smaller-then-cut : goal.loop-at-smaller-then-cut
loop-at-smaller-then-cut c =
    let a = c.args in
    let l = c.loop-at in
    let t = c.loop-at-test.true in
    let n = c.next-cut in
    let h = turn_less a.form (sift_run (made_of a.form) a.state a.line.now a.chunk.now) a.chunk.now a.made.now
    a.rows.now l.line l.made l.rows l.begun l.loaded l.refused l.made_end l.rows_end l.at t l.invariant n.result
    n.new.line n.ensures in
    omega (arith, h, t)

pub loop-at-smaller : goal.loop-at-smaller
loop-at-smaller c =
    let a = c.args in
    let l = c.loop-at in
    let t = c.loop-at-test.true in
    let n = c.next-cut in
    let h = turn_less a.form (sift_run (made_of a.form) a.state a.line.now a.chunk.now) a.chunk.now a.made.now
    a.rows.now l.line l.made l.rows l.begun l.loaded l.refused l.made_end l.rows_end l.at t l.invariant n.result
    n.new.line n.ensures in
    omega (arith, h, t)

pub loop-at-preserved-then-cut : goal.loop-at-preserved-then-cut
loop-at-preserved-then-cut c =
    let a = c.args in
    let l = c.loop-at in
    let t = c.loop-at-test.true in
    let n = c.next-cut in
    let k = c.close-closed in
    turn_close a.form (sift_run (made_of a.form) a.state a.line.now a.chunk.now) a.chunk.now a.made.now
    a.rows.now l.line l.made l.rows l.begun l.loaded l.refused l.made_end l.rows_end l.at t l.invariant n.result
    n.new.line n.ensures
    c.if-cut.true k.new.made k.new.rows k.result k.ensures

pub loop-at-preserved : goal.loop-at-preserved
loop-at-preserved c =
    let a = c.args in
    let l = c.loop-at in
    let t = c.loop-at-test.true in
    let n = c.next-cut in
    turn_on a.form (sift_run (made_of a.form) a.state a.line.now a.chunk.now) a.chunk.now a.made.now
    a.rows.now l.line l.made l.rows l.begun l.loaded l.refused l.made_end l.rows_end l.at t l.invariant n.result
    n.new.line n.ensures c.if-cut.false

pub returns : goal.returns
returns c =
    let a = c.args in
    let l = c.loop-at in
    turn_end a.state a.form a.line.now a.chunk.now a.made.now a.rows.now l.line l.made l.rows l.begun l.loaded
    l.refused l.made_end l.rows_end l.at c.loop-at-test.false l.invariant
