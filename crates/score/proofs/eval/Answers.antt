-- `score::eval` meets its contract. Assumes nothing.
use mathlib.Core.Path.{◌∙◌}
use Rattle.refusal.proofs.Paper.{error_answered_by}
use Rattle.position.proofs.Doors.{pass_on, fit_rest}
use Rattle.score.specs.Score.{score_of, eval_of}
use Rattle.score.specs.Answers.{scored_as}
use Rattle.score.proofs.eval.Goals as goal

pub returns-in_err-check : goal.returns-in_err-check
unfolding eval_of
returns-in_err-check c =
    let a = c.args in
    error_answered_by scored_as _ _ c.from_residual.ensures
    ∙ pass_on a.bitboards.now a.board.now a.state c.check.result c.check.ensures (score_of a.bitboards.now a.state)
    _ c.in_err-check.was

pub returns : goal.returns
unfolding eval_of
returns c =
    let a = c.args in
    c.eval.ensures
    ∙ fit_rest a.bitboards.now a.board.now a.state c.check.result c.check.ensures (score_of a.bitboards.now a.state)
    c.in_ok-check.was
