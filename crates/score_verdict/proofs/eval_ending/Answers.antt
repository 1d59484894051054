-- `score_verdict::eval_ending` meets its contract. Assumes nothing.
use Rattle.refusal.proofs.Paper.{error_answered_by}
use mathlib.Core.Path.{ap, ◌∙◌}
use Rattle.refusal.specs.Answer.{given}
use Rattle.position.proofs.Doors.{pass_on, fit_rest}
use Rattle.score_verdict.specs.Answers.{verdict_paper}
use Rattle.score_verdict.specs.Verdict.{verdict_of, ending_of}
use Rattle.score_verdict.proofs.eval_ending.Goals as goal

pub returns-in_err-check : goal.returns-in_err-check
unfolding ending_of
returns-in_err-check c =
    let a = c.args in
    error_answered_by verdict_paper _ _ c.from_residual.ensures ∙ pass_on a.bitboards.now a.board.now a.state c.check.result c.check.ensures
    (given (verdict_of a.bitboards.now a.state.side)) _ c.in_err-check.was

pub returns : goal.returns
unfolding ending_of
returns c =
    let a = c.args in
    ap given c.ending.ensures
    ∙ fit_rest a.bitboards.now a.board.now a.state c.check.result c.check.ensures
    (given (verdict_of a.bitboards.now a.state.side)) c.in_ok-check.was
