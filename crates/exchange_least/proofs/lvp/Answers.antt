-- `exchange_least::lvp` meets its contract. Assumes nothing.
use mathlib.Core.Path.{sym, ◌∙◌}
use native.Mathlib.Omega.{arith}
use borrow.Author.Tests.{not-true, not-false}
use Rattle.refusal.proofs.Paper.{error_answered_by}
use Rattle.position.specs.Checked.{checked}
use Rattle.position.proofs.Doors.{pass_on, fit_rest}
use Rattle.attack.proofs.Doors.{a_colour}
use Rattle.exchange_least.specs.Answers.{paper_attacker}
use Rattle.exchange_least.proofs.Doors.{rest, no_order, picked}
use Rattle.exchange_least.proofs.lvp.Goals as goal

pub returns-in_err-check : goal.returns-in_err-check
returns-in_err-check c =
    let a = c.args in
    let after = rest a.order.now a.bitboards.now a.color a.attacks a.occupied in
    error_answered_by paper_attacker _ _ c.from_residual.ensures
    ∙ pass_on a.bitboards.now a.board.now a.state c.check.result c.check.ensures after _ c.in_err-check.was
    ∙ a_colour a.color (checked a.bitboards.now a.board.now a.state after) (omega arith)

pub returns-then-not-each_once : goal.returns-then-not-each_once
returns-then-not-each_once c =
    let a = c.args in
    let after = rest a.order.now a.bitboards.now a.color a.attacks a.occupied in
    no_order a.order.now a.bitboards.now a.color a.attacks a.occupied
    (sym c.each_once.ensures ∙ not-true c.each_once.result c.if-not-each_once.true-raw)
    ∙ fit_rest a.bitboards.now a.board.now a.state c.check.result c.check.ensures after c.in_ok-check.was
    ∙ a_colour a.color (checked a.bitboards.now a.board.now a.state after) (omega arith)

pub returns : goal.returns
returns c =
    let a = c.args in
    let after = rest a.order.now a.bitboards.now a.color a.attacks a.occupied in
    picked a.order.now a.bitboards.now a.color a.attacks a.occupied _
    (sym c.each_once.ensures ∙ not-false c.each_once.result c.if-not-each_once.false-raw) c.pick.ensures
    ∙ fit_rest a.bitboards.now a.board.now a.state c.check.result c.check.ensures after c.in_ok-check.was
    ∙ a_colour a.color (checked a.bitboards.now a.board.now a.state after) (omega arith)
