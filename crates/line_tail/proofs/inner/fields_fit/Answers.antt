-- `inner::fields_fit` meets its contract. Assumes nothing.
use borrow.Author.Tests.{not-true, not-false}
use Rattle.line_tail.proofs.Tails.{five_fields, six_fields, seven_fields}
use Rattle.line_tail.proofs.inner.fields_fit.Goals as goal

pub returns-then-not-both_given : goal.returns-then-not-both_given
returns-then-not-both_given c =
    let a = c.args in
    five_fields a.halfmoves.now a.moves.now a.more.now c.both_given.result c.both_given.ensures (not-true _ c.if-not-both_given.true-raw)

pub returns-then-more-ne0 : goal.returns-then-more-ne0
returns-then-more-ne0 c =
    let a = c.args in
    seven_fields a.halfmoves.now a.moves.now a.more.now c.both_given.result c.both_given.ensures (not-false _ c.if-not-both_given.false-raw)
    c.if-more-ne0.true

pub returns : goal.returns
returns c =
    let a = c.args in
    six_fields a.halfmoves.now a.moves.now a.more.now c.both_given.result c.both_given.ensures
    (not-false _ c.if-not-both_given.false-raw) c.if-more-ne0.false
    c.counter_or.result c.counter_or-2.result c.counter_or.ensures c.counter_or-2.ensures c.counters_fit.result c.counters_fit.ensures
