-- `trace_list_double::eval_list` meets its contract. Assumes nothing.
use Rattle.trace_counts.proofs.Held.{read}
use Rattle.trace_list_double.proofs.Doors.{worked}
use Rattle.trace_list_double.proofs.eval_list.Goals as goal

pub returns-then-is_list : goal.returns-then-is_list
returns-then-is_list c =
    let t = c.args.trace in
    worked c.args.trace c.args.used c.args.bytes.now c.args.weights c.args.squares.now c.if-squares-ne-COUNT.false c.in_ranges.ensures
    c.if-in_ranges.true c.is_list.ensures c.if-is_list.true c.index.ensures
    (read t.piece_count c.struct_told-1.given.1.1.1.1.1.1.1.1.0.1) c.sum-start.ensures c.all_weighed.ensures
