-- `ledger_join::take_rows` meets its contract. Assumes nothing.
use mathlib.Core.List.{[]}
use native.Mathlib.Omega.{arith}
use Rattle.ledger_join.specs.Machine.{joint, bytes_on}
use Rattle.ledger_join.proofs.Turn.{turn_count, turn_next, turn_end}
use Rattle.ledger_join.proofs.take_rows.Goals as goal

pub overflow_add-next : goal.overflow_add-next
overflow_add-next c = let take-some = c.take_some-taken in
    let more = c.loop-i-test in
    let loop = c.loop-i in
    let args = c.args in
    record {
      fits = omega (
        arith,
        turn_count (bytes_on (joint args.row.now args.s []) args.chunk.now) args.chunk.now args.out.now
            loop.row loop.out loop.text loop.state loop.wrote loop.i loop.k (omega (arith, more.true)) loop.invariant
            take-some.result _ _
            take-some.ensures,
      );
    }

pub loop-i-preserved : goal.loop-i-preserved
loop-i-preserved c = let take-some = c.take_some-taken in
    let more = c.loop-i-test in
    let loop = c.loop-i in
    let args = c.args in
    turn_next (bytes_on (joint args.row.now args.s []) args.chunk.now) args.chunk.now args.out.now loop.row loop.out
    loop.text loop.state loop.wrote loop.i loop.k (omega (arith, more.true)) loop.invariant take-some.result _ _ take-some.ensures _
    c.count_on-k.result c.count_on-k.ensures

pub returns : goal.returns
returns c = let a = c.args in let l = c.loop-i in
    turn_end a.s a.row.now a.chunk.now a.out.now l.row l.out l.text l.state l.wrote l.i l.k (omega arith) l.invariant
