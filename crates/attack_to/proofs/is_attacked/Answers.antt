-- `attack_to::is_attacked` meets its contract. Assumes nothing.
use native.Mathlib.Omega.{arith}
use mathlib.Core.Path.{◌∙◌}
use Rattle.bits.specs.Answers.{on_board}
use Rattle.position.specs.Checked.{checked}
use Rattle.refusal.proofs.Paper.{error_answered}
use Rattle.position.proofs.Doors.{pass_on, fit_rest}
use Rattle.attack_to.specs.Attackers.{is_attacked}
use Rattle.attack.proofs.Doors.{off_board, on_board_holds, a_colour}
use Rattle.attack_to.proofs.is_attacked.Goals as goal

pub returns-in_err-check : goal.returns-in_err-check
returns-in_err-check c =
    let a = c.args in
    error_answered _ _ c.from_residual.ensures ∙ pass_on a.bitboards.now a.board.now a.state c.check.result c.check.ensures
    (on_board a.square (is_attacked a.bitboards.now a.square a.color)) _ c.in_err-check.was
    ∙ a_colour a.color (checked a.bitboards.now a.board.now a.state
    (on_board a.square (is_attacked a.bitboards.now a.square a.color))) (omega arith)

pub returns-then-square-gt-LAST : goal.returns-then-square-gt-LAST
returns-then-square-gt-LAST c =
    let a = c.args in
    off_board a.square (is_attacked a.bitboards.now a.square a.color) (omega arith)
    ∙ fit_rest a.bitboards.now a.board.now a.state c.check.result c.check.ensures
    (on_board a.square (is_attacked a.bitboards.now a.square a.color)) c.in_ok-check.was
    ∙ a_colour a.color (checked a.bitboards.now a.board.now a.state
    (on_board a.square (is_attacked a.bitboards.now a.square a.color))) (omega arith)

pub returns : goal.returns
returns c =
    let a = c.args in
    on_board_holds a.square (is_attacked a.bitboards.now a.square a.color) c.is_attacked.result (omega arith)
    c.is_attacked.ensures
    ∙ fit_rest a.bitboards.now a.board.now a.state c.check.result c.check.ensures
    (on_board a.square (is_attacked a.bitboards.now a.square a.color)) c.in_ok-check.was
    ∙ a_colour a.color (checked a.bitboards.now a.board.now a.state
    (on_board a.square (is_attacked a.bitboards.now a.square a.color))) (omega arith)
