-- `score_collection::inner::take` meets its contract: the loop's invariant is that of every loop over lines (cut's `Turn`). Assumes nothing.
use mathlib.Core.Path.{sym, ap}
use native.Mathlib.Omega.{arith}
use Rattle.line_cut.specs.Cut.{CutSoFar}
use Rattle.line_cut.proofs.Loop.{turn_next, turn_less, turn_end}
use Rattle.score_collection.specs.Promises.{close_with, gathered_of}
use Rattle.score_collection.specs.declared.Sum.{Sum}
use Rattle.score_collection.proofs.inner.take.Goals as goal

pub loop-at-smaller : goal.loop-at-smaller
loop-at-smaller c =
    let a = c.args in
    let l = c.loop-at in
    let n = c.next-cut in
    let h = turn_less (close_with a.expected.now) _ _ a.chunk.now l.line l.begun l.sum l.at l.invariant (omega arith) n.result
    n.new.line n.ensures in
    omega (arith, h)

pub loop-at-preserved : goal.loop-at-preserved
loop-at-preserved c =
    let a = c.args in
    let l = c.loop-at in
    let n = c.next-cut in
    turn_next (close_with a.expected.now) _ _ a.chunk.now l.line l.begun l.sum l.at l.invariant (omega arith) n.result
    n.new.line n.ensures
    c.counted-sum.result c.counted-sum.ensures

pub returns : goal.returns
returns c =
    let a = c.args in
    let l = c.loop-at in
    let e = turn_end (close_with a.expected.now) _ _ a.chunk.now l.line l.begun l.sum l.at l.invariant (omega arith) in
    record { answer = sym (ap gathered_of e); kept = sym (ap (λ (r : CutSoFar Sum). r.left.line) e) }
