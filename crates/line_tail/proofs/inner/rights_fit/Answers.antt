-- `inner::rights_fit` meets its contract. Assumes nothing.
use borrow.Author.Tests.{not-true, not-false}
use Rattle.line_tail.proofs.Tails.{no_letters, with_letters}
use Rattle.line_tail.proofs.inner.rights_fit.Goals as goal

pub returns-then-not-are_rights : goal.returns-then-not-are_rights
returns-then-not-are_rights c =
    let a = c.args in
    no_letters a.board.now a.word.now c.are_rights.result c.are_rights.ensures (not-true _ c.if-not-are_rights.true-raw)

pub returns : goal.returns
returns c =
    let a = c.args in
    with_letters a.board.now a.word.now c.are_rights.result c.are_rights.ensures (not-false _ c.if-not-are_rights.false-raw)
    c.rights.result c.rights.ensures c.at_home.result c.at_home.ensures
