-- `store_record::inner::pack` meets its contract: after i bytes the first i are the record's. Assumes nothing.
use mathlib.Core.Path.{sym, ap₂, ◌∙◌}
use native.Mathlib.Numerals.{add-one}
use native.Mathlib.Omega.{arith}
use Rattle.laws.specs.Tables.{tabulate}
use Rattle.store_record.specs.Record.{two_squares}
use Rattle.store_record.proofs.Records.{bytes_none, bytes_more, bytes_all, record_pair}
use Rattle.store_record.proofs.inner.pack.Invariants.{packed}
use Rattle.store_record.proofs.inner.pack.Goals as goal

pub loop-i-init : goal.loop-i-init
unfolding tabulate
loop-i-init c = bytes_none (packed c.args.board.now c.args.side c.args.half)

pub loop-i-preserved : goal.loop-i-preserved
loop-i-preserved c =
    let l = c.loop-i in
    let a = c.args in
    rw add-one
    (bytes_more (packed a.board.now a.side a.half) l.«record» l.i c.pair.result l.invariant (omega arith)
    (c.pair.ensures ∙ ap₂ two_squares c.at.ensures c.at-in-loop-i.ensures
    ∙ sym (record_pair (packed a.board.now a.side a.half) l.i c.loop-i-test.true)))

pub returns : goal.returns
returns c =
    let l = c.loop-i in
    let a = c.args in
    bytes_all (packed a.board.now a.side a.half) l.«record» l.i (omega arith) l.invariant
