-- `inner::at_home` meets its contract. Assumes nothing.
use mathlib.Core.Path.{◌∙◌}
use borrow.Author.Tests.{not-true, not-false}
use Rattle.position_further.proofs.Laws.{fails_K, fails_Q, fails_k, left_q}
use Rattle.position_further.proofs.inner.at_home.Goals as goal

pub returns-then-not-home : goal.returns-then-not-home
returns-then-not-home c =
    let a = c.args in
    fails_K a.board.now a.rights c.home.result c.home.ensures (not-true _ c.if-not-home.true-raw)

pub returns-then-not-home-2 : goal.returns-then-not-home-2
returns-then-not-home-2 c =
    let a = c.args in
    fails_Q a.board.now a.rights c.home-2.result c.home-2.ensures (not-true _ c.if-not-home-2.true-raw)

pub returns-then-not-home-3 : goal.returns-then-not-home-3
returns-then-not-home-3 c =
    let a = c.args in
    fails_k a.board.now a.rights c.home-3.result c.home-3.ensures (not-true _ c.if-not-home-3.true-raw)

pub returns : goal.returns
returns c =
    let third = c in
    let second = third in
    let first = second in
    let a = first.args in
    c.home-4.ensures
    ∙ left_q a.board.now a.rights first.home.result second.home-2.result third.home-3.result
    first.home.ensures second.home-2.ensures third.home-3.ensures
    (not-false _ second.if-not-home.false-raw) (not-false _ third.if-not-home-2.false-raw) (not-false _ c.if-not-home-3.false-raw)
