-- `ledger_feed::take` meets its contract: the loop's invariant is `Turn`. Assumes nothing.
use mathlib.Core.Bool.{not}
use mathlib.Core.List.{[]}
use Prim.Native.Nat.{◌+◌}
use native.Mathlib.Omega.{arith}
use mir.Val.{bool_byte}
use Rattle.line_cut.specs.Cut.{run_by}
use Rattle.line_cut.specs.Promises.{opened}
use Rattle.line_cut.proofs.Loop.{next_line}
use Rattle.line_profile.specs.Under.{said_under}
use Rattle.ledger_close.proofs.Closed.{closed_adds}
use Rattle.ledger_feed.specs.Machine.{close_row}
use Rattle.ledger_feed.proofs.Counted.{number_most, tally_number}
use Rattle.ledger_feed.proofs.Turn.{rows, turn_less, turn_on, turn_close, turn_end}
use Rattle.ledger_feed.proofs.take.Goals as goal

pub overflow_add-loaded-then-cut : goal.overflow_add-loaded-then-cut
overflow_add-loaded-then-cut c =
    let a = c.args in
    let l = c.loop-at in
    let n = c.next-cut in
    let e = next_line l.begun l.line a.chunk.now l.at n.result n.new.line n.ensures c.if-cut.true in
    record { fits = omega (arith, l.invariant.counts) }

pub overflow_add-loaded-then-cut-2 : goal.overflow_add-loaded-then-cut-2
overflow_add-loaded-then-cut-2 c =
    let a = c.args in
    let l = c.loop-at in
    let n = c.next-cut in
    let e = next_line l.begun l.line a.chunk.now l.at n.result n.new.line n.ensures
    c.if-cut.true in
    record { fits = omega (arith, l.invariant.counts, number_most c.close-row.result.loaded) }

pub overflow_add-refused : goal.overflow_add-refused
overflow_add-refused c =
    let a = c.args in
    let l = c.loop-at in
    let n = c.next-cut in
    let e = next_line l.begun l.line a.chunk.now l.at n.result n.new.line n.ensures
    c.if-cut.true in
    record { fits = omega (arith, l.invariant.counts, number_most (not c.close-row.result.loaded)) }

pub loop-at-smaller-then-cut : goal.loop-at-smaller-then-cut
loop-at-smaller-then-cut c =
    let a = c.args in
    let l = c.loop-at in
    let n = c.next-cut in
    let more = c.loop-at-test.true in
    let h = turn_less a.profile (run_by (close_row a.profile) (opened (record { held = a.state.held; cr = a.state.cr }) a.line.now)
    (rows a.state.loaded a.state.refused []) a.chunk.now) a.chunk.now a.out.now l.line l.out l.begun l.loaded
    l.refused l.wrote l.at more l.invariant n.result n.new.line n.ensures in
    omega (arith, h, more)

pub loop-at-preserved-then-cut : goal.loop-at-preserved-then-cut
loop-at-preserved-then-cut c =
    let a = c.args in
    let l = c.loop-at in
    let n = c.next-cut in
    let k = c.close-row in
    let said = said_under a.profile n.new.line n.result.size in
    turn_close a.profile (run_by (close_row a.profile) (opened (record { held = a.state.held; cr = a.state.cr }) a.line.now)
    (rows a.state.loaded a.state.refused []) a.chunk.now) a.chunk.now a.out.now l.line l.out l.begun l.loaded
    l.refused l.wrote l.at
    c.loop-at-test.true l.invariant n.result
    n.new.line n.ensures
    c.if-cut.true k.new.out c.unwrap_or-wrote.result
    (closed_adds (l.loaded + l.refused + 1) l.out k.new.out l.wrote said k.result k.ensures c.unwrap_or-wrote.result c.unwrap_or-wrote.ensures)
    k.result.loaded k.ensures.loaded (l.loaded + bool_byte k.result.loaded) (l.refused + bool_byte (not k.result.loaded))
    (tally_number k.result.loaded l.loaded) (tally_number (not k.result.loaded) l.refused)

pub loop-at-smaller : goal.loop-at-smaller
loop-at-smaller c =
    let a = c.args in
    let l = c.loop-at in
    let n = c.next-cut in
    let h = turn_less a.profile (run_by (close_row a.profile) (opened (record { held = a.state.held; cr = a.state.cr }) a.line.now)
    (rows a.state.loaded a.state.refused []) a.chunk.now) a.chunk.now a.out.now l.line l.out l.begun l.loaded
    l.refused l.wrote l.at (omega arith) l.invariant n.result n.new.line n.ensures in
    omega (arith, h)

pub loop-at-preserved : goal.loop-at-preserved
loop-at-preserved c =
    let a = c.args in
    let l = c.loop-at in
    let n = c.next-cut in
    turn_on a.profile (run_by (close_row a.profile) (opened (record { held = a.state.held; cr = a.state.cr }) a.line.now)
    (rows a.state.loaded a.state.refused []) a.chunk.now) a.chunk.now a.out.now l.line l.out l.begun l.loaded
    l.refused l.wrote l.at (omega arith) l.invariant n.result n.new.line n.ensures c.if-cut.false

pub returns : goal.returns
returns c =
    let a = c.args in
    let l = c.loop-at in
    turn_end a.profile a.state a.line.now a.chunk.now a.out.now l.line l.out l.begun l.loaded l.refused l.wrote
    l.at (omega arith) l.invariant
    c.made.result c.made.ensures
