-- `ledger_join::take_some` meets its contract. Assumes nothing.
use mathlib.Core.Path.{sym}
use lib.Seq.{length-take-le}
use Rattle.ledger_join.proofs.Some.{byte_ready, some_byte, some_fits, some_ready, some_row}
use Rattle.ledger_join.proofs.take_some.Goals as goal

pub take_byte-one-requires : goal.take_byte-one-requires
take_byte-one-requires c = let pre = c.requires in
    let a = c.args in
    (byte_ready a.s a.row.now a.chunk.now a.whole.now a.out.now a.at pre, pre.size)

pub returns-then-n-eq0 : goal.returns-then-n-eq0
returns-then-n-eq0 c = let take-byte = c.take_byte-one in
    let a = c.args in
    some_byte a.s a.row.now a.chunk.now a.out.now a.at
    c.requires.some
    take-byte.result take-byte.new.row take-byte.new.out take-byte.ensures

pub slice_bounds-take_row-end : goal.slice_bounds-take_row-end
slice_bounds-take_row-end c = let told = c.told-r in
    let args = c.args in
    let pre = c.requires in
    sym (length-take-le told.result.size args.chunk.now
    (some_fits args.s args.row.now args.chunk.now args.whole.now args.out.now args.at pre told.result told.ensures
    c.if-n-eq0.false))

pub take_row-all-requires : goal.take_row-all-requires
take_row-all-requires c = let told = c.told-r in
    let args = c.args in
    let pre = c.requires in
    some_ready args.s args.row.now args.chunk.now args.whole.now args.out.now args.at pre told.result told.ensures
    c.if-n-eq0.false

pub returns : goal.returns
returns c = let take_row = c.take_row-all in
    let if1 = c.if-n-eq0 in
    let told = c.told-r in
    let args = c.args in
    let pre = c.requires in
    some_row args.s args.row.now args.chunk.now args.whole.now args.out.now args.at pre told.result told.ensures
    if1.false take_row.result take_row.new.row take_row.new.out take_row.ensures
