-- `trace_list_turn::number` meets its contract. The loop's invariant: `sum` counts the entries passed. Assumes nothing.
use native.Mathlib.Omega.{arith}
use Rattle.trace_list.specs.Form.{is_one_rule}
use Rattle.trace_list_turn.proofs.Ways.{many_none, many_more}
use Rattle.trace_list_turn.proofs.number.Goals as goal

pub loop-entry-init : goal.loop-entry-init
loop-entry-init c = (omega arith, many_none (is_one_rule c.args.entries.now))

pub loop-entry-preserved : goal.loop-entry-preserved
loop-entry-preserved c =
    let l = c.loop-entry in
    let e = c.one-sum.ensures in
    (omega (arith, e.1), many_more c.args.entries.now l.entry-index c.one-arg-1.given l.invariant.1 e.0)
