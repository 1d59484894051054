-- `inner::home` meets its contract. Assumes nothing.
use mathlib.Core.Path.{◌∙◌}
use borrow.Author.Tests.{not-true, not-false}
use Rattle.position_further.proofs.Laws.{no_right, king_away, king_there}
use Rattle.position_further.proofs.inner.home.Goals as goal

pub returns-then-not-right : goal.returns-then-not-right
returns-then-not-right c =
    let a = c.args in
    no_right a.board.now a.right a.at a.king a.corner a.rook (not-true _ c.if-not-right.true-raw)

pub returns-then-not-stands : goal.returns-then-not-stands
returns-then-not-stands c =
    let s = c in
    let a = s.args in
    king_away a.board.now a.right a.at a.king a.corner a.rook (not-false _ s.if-not-right.false-raw) s.stands.result s.stands.ensures
    (not-true _ c.if-not-stands.true-raw)

pub returns : goal.returns
returns c =
    let s = c in
    let a = s.args in
    c.stands-2.ensures
    ∙ king_there a.board.now a.right a.at a.king a.corner a.rook (not-false _ s.if-not-right.false-raw) s.stands.result
    s.stands.ensures
    (not-false _ c.if-not-stands.false-raw)
