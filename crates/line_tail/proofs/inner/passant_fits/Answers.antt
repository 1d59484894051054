-- `inner::passant_fits` meets its contract. Assumes nothing.
use borrow.Author.Tests.{not-true, not-false}
use Rattle.line_tail.proofs.Tails.{three_fields, four_fields}
use Rattle.line_tail.proofs.inner.passant_fits.Goals as goal

pub returns-then-not-both_given : goal.returns-then-not-both_given
returns-then-not-both_given c =
    let a = c.args in
    three_fields a.board.now a.side a.rights.now a.word.now c.both_given.result c.both_given.ensures (not-true _ c.if-not-both_given.true-raw)

pub returns : goal.returns
returns c =
    let a = c.args in
    four_fields a.board.now a.side a.rights.now a.word.now c.both_given.result c.both_given.ensures
    (not-false _ c.if-not-both_given.false-raw)
    c.passant.result c.passant.ensures c.just_passed.result c.just_passed.ensures
