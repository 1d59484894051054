-- `exchange_start::inner::begins` meets its contract. Assumes nothing.
use Rattle.refusal.proofs.Paper.{error_answered}
use mathlib.Core.Path.{sym, ◌∙◌}
use native.Mathlib.Omega.{arith}
use borrow.Author.Tests.{not-true, not-false}
use Rattle.position.proofs.Doors.{pass_on, fit_rest}
use Rattle.exchange_start.proofs.Begun.{begun_or, from_off, to_off, no_order, no_move, crowd}
use Rattle.exchange_start.proofs.inner.begins.Goals as goal

pub returns-in_err-check : goal.returns-in_err-check
returns-in_err-check c =
    let a = c.args in
    error_answered _ _ c.from_residual.ensures ∙ pass_on a.bitboards.now a.board.now a.state c.check.result c.check.ensures
    (begun_or a.mode a.order.now a.bitboards.now a.board.now a.state a.from a.to) _
    c.in_err-check.was

pub returns-then-from-gt-LAST : goal.returns-then-from-gt-LAST
returns-then-from-gt-LAST c =
    let a = c.args in
    from_off a.mode a.order.now a.bitboards.now a.board.now a.state a.from a.to (omega arith)
    ∙ fit_rest a.bitboards.now a.board.now a.state c.check.result c.check.ensures
    (begun_or a.mode a.order.now a.bitboards.now a.board.now a.state a.from a.to) c.in_ok-check.was

pub returns-then-to-gt-LAST : goal.returns-then-to-gt-LAST
returns-then-to-gt-LAST c =
    let a = c.args in
    to_off a.mode a.order.now a.bitboards.now a.board.now a.state a.from a.to (omega arith)
    ∙ fit_rest a.bitboards.now a.board.now a.state c.check.result c.check.ensures
    (begun_or a.mode a.order.now a.bitboards.now a.board.now a.state a.from a.to) c.in_ok-check.was

pub returns-then-not-each_once : goal.returns-then-not-each_once
returns-then-not-each_once c =
    let a = c.args in
    no_order a.mode a.order.now a.bitboards.now a.board.now a.state a.from a.to (omega arith) (omega arith)
    (sym c.each_once.ensures ∙ not-true c.each_once.result c.if-not-each_once.true-raw)
    ∙ fit_rest a.bitboards.now a.board.now a.state c.check.result c.check.ensures
    (begun_or a.mode a.order.now a.bitboards.now a.board.now a.state a.from a.to) c.in_ok-check.was

pub returns-then-not-may_capture : goal.returns-then-not-may_capture
returns-then-not-may_capture c =
    let a = c.args in
    no_move a.mode a.order.now a.bitboards.now a.board.now a.state a.from a.to (omega arith) (omega arith)
    (sym c.each_once.ensures ∙ not-false c.each_once.result c.if-not-each_once.false-raw)
    (sym c.may_capture.ensures ∙ not-true c.may_capture.result c.if-not-may_capture.true-raw)
    ∙ fit_rest a.bitboards.now a.board.now a.state c.check.result c.check.ensures
    (begun_or a.mode a.order.now a.bitboards.now a.board.now a.state a.from a.to) c.in_ok-check.was

pub returns-then-not-uncrowded : goal.returns-then-not-uncrowded
returns-then-not-uncrowded c =
    let a = c.args in
    crowd a.mode a.order.now a.bitboards.now a.board.now a.state a.from a.to (omega arith) (omega arith)
    (sym c.each_once.ensures ∙ not-false c.each_once.result c.if-not-each_once.false-raw)
    (sym c.may_capture.ensures ∙ not-false c.may_capture.result c.if-not-may_capture.false-raw)
    (sym c.uncrowded.ensures ∙ not-true c.uncrowded.result c.if-not-uncrowded.true-raw)
    ∙ fit_rest a.bitboards.now a.board.now a.state c.check.result c.check.ensures
    (begun_or a.mode a.order.now a.bitboards.now a.board.now a.state a.from a.to) c.in_ok-check.was
