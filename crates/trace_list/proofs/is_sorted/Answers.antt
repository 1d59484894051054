-- `trace_list::is_sorted` meets its contract. The loop's invariant: `good` says it of the entries passed, and `least` is the next one's
-- least place. Assumes nothing.
use Rattle.trace_list.proofs.Tests.{least_none, least_more, sorted_none, sorted_more}
use Rattle.trace_list.proofs.is_sorted.Goals as goal

pub loop-i-init : goal.loop-i-init
loop-i-init c = let s = c.args in (least_none s.bytes.now, sorted_none s.bytes.now)

pub loop-i-preserved : goal.loop-i-preserved
loop-i-preserved c =
    let l = c.loop-i in
    let b = c.args.bytes.now in
    (least_more b l.i c.place-here.ensures.0, sorted_more b l.i l.invariant.0 c.place-here.ensures.0 c.is_in_range.ensures l.invariant.1)
