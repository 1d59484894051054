-- `captures_feed::take` meets its contract: the loop's invariant is `Turn`. Assumes nothing.
use native.Mathlib.Omega.{arith}
use Rattle.captures_feed.proofs.Turn.{ran_of, turn_ready, turn_less, turn_next, turn_end}
use Rattle.captures_feed.proofs.take.Goals as goal

pub counted-written-requires : goal.counted-written-requires
counted-written-requires c =
    let a = c.args in
    let l = c.loop-at in
    let n = c.next-cut in
    turn_ready a.mode (ran_of a.mode a.state a.line.now a.chunk.now) a.chunk.now a.out.now l.line l.out l.begun
    l.written l.at l.invariant n.result n.new.line n.ensures

pub loop-at-smaller : goal.loop-at-smaller
loop-at-smaller c =
    let a = c.args in
    let l = c.loop-at in
    let n = c.next-cut in
    let h = turn_less a.mode (ran_of a.mode a.state a.line.now a.chunk.now) a.chunk.now a.out.now l.line l.out
    l.begun l.written l.at l.invariant n.result n.new.line n.ensures (omega arith) in
    omega (arith, h)

pub loop-at-preserved : goal.loop-at-preserved
loop-at-preserved c =
    let a = c.args in
    let l = c.loop-at in
    let n = c.next-cut in
    let k = c.counted-written in
    turn_next a.mode (ran_of a.mode a.state a.line.now a.chunk.now) a.chunk.now a.out.now l.line l.out l.begun
    l.written l.at l.invariant n.result n.new.line n.ensures
    c.loop-at-test.true k.new.out k.result k.ensures

pub returns : goal.returns
returns c =
    let a = c.args in
    let l = c.loop-at in
    turn_end a.mode a.state a.line.now a.chunk.now a.out.now l.line l.out l.begun l.written l.at (omega arith)
    l.invariant c.made.result c.made.ensures
