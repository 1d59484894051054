-- `position_profile::judge` meets its contract. Assumes nothing.
use Rattle.refusal.proofs.Paper.{error_answered}
use mathlib.Core.Path.{◌∙◌}
use Rattle.refusal.specs.Answer.{given}
use Rattle.position.proofs.Doors.{pass_on, fit_rest}
use Rattle.position_profile.specs.Profile.{or_profile}
use Rattle.position_profile.proofs.judge.Goals as goal

pub returns-in_err-check : goal.returns-in_err-check
returns-in_err-check c =
    let a = c.args in
    error_answered _ _ c.from_residual.ensures ∙ pass_on a.bitboards.now a.board.now a.state c.check.result c.check.ensures
    (or_profile a.bitboards.now a.state (given tt)) _ c.in_err-check.was

pub returns : goal.returns
returns c =
    let a = c.args in
    c.judge.ensures
    ∙ fit_rest a.bitboards.now a.board.now a.state c.check.result c.check.ensures
    (or_profile a.bitboards.now a.state (given tt)) c.in_ok-check.was
