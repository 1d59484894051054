-- `attack_to::is_check` meets its contract. Assumes nothing.
use native.Mathlib.Omega.{arith}
use mathlib.Core.Path.{ap, ◌∙◌}
use Rattle.refusal.specs.Answer.{given}
use Rattle.position.specs.Checked.{checked}
use Rattle.refusal.proofs.Paper.{error_answered}
use Rattle.position.proofs.Doors.{pass_on, fit_rest}
use Rattle.attack_to.specs.Attackers.{is_check}
use Rattle.attack.proofs.Doors.{a_colour}
use Rattle.attack_to.proofs.is_check.Goals as goal

pub returns-in_err-check : goal.returns-in_err-check
returns-in_err-check c =
    let a = c.args in
    error_answered _ _ c.from_residual.ensures ∙ pass_on a.bitboards.now a.board.now a.state c.check.result c.check.ensures
    (given (is_check a.bitboards.now a.color)) _ c.in_err-check.was
    ∙ a_colour a.color (checked a.bitboards.now a.board.now a.state (given (is_check a.bitboards.now a.color))) (omega arith)

pub returns : goal.returns
returns c =
    let a = c.args in
    ap given c.is_check.ensures
    ∙ fit_rest a.bitboards.now a.board.now a.state c.check.result c.check.ensures (given (is_check a.bitboards.now a.color))
    c.in_ok-check.was
    ∙ a_colour a.color (checked a.bitboards.now a.board.now a.state (given (is_check a.bitboards.now a.color))) (omega arith)
