-- `attack_to::attacks_to` meets its contract. Assumes nothing.
use native.Mathlib.Omega.{arith}
use mathlib.Core.Path.{◌∙◌}
use Rattle.bits.specs.Answers.{on_board}
use Rattle.refusal.proofs.Paper.{error_answered}
use Rattle.position.proofs.Doors.{pass_on, fit_rest}
use Rattle.attack_to.specs.Attackers.{attackers}
use Rattle.attack.proofs.Doors.{off_board, on_board_holds}
use Rattle.attack_to.proofs.attacks_to.Goals as goal

pub returns-in_err-check : goal.returns-in_err-check
returns-in_err-check c =
    let a = c.args in
    error_answered _ _ c.from_residual.ensures ∙ pass_on a.bitboards.now a.board.now a.state c.check.result c.check.ensures
    (on_board a.square (attackers a.bitboards.now a.square a.occupied)) _ c.in_err-check.was

pub returns-then-square-le-LAST : goal.returns-then-square-le-LAST
returns-then-square-le-LAST c =
    let a = c.args in
    on_board_holds a.square (attackers a.bitboards.now a.square a.occupied) c.attacks_to.result (omega arith)
    c.attacks_to.ensures
    ∙ fit_rest a.bitboards.now a.board.now a.state c.check.result c.check.ensures
    (on_board a.square (attackers a.bitboards.now a.square a.occupied)) c.in_ok-check.was

pub returns : goal.returns
returns c =
    let a = c.args in
    off_board a.square (attackers a.bitboards.now a.square a.occupied) (omega arith)
    ∙ fit_rest a.bitboards.now a.board.now a.state c.check.result c.check.ensures
    (on_board a.square (attackers a.bitboards.now a.square a.occupied)) c.in_ok-check.was
