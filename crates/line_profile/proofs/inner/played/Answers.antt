-- `line_profile::inner::played` meets its contract. Assumes nothing.
use mathlib.Core.Path.{ap, sym, ◌∙◌}
use Rattle.refusal.specs.Answer.{answered}
use Rattle.refusal.proofs.Paper.{error_answered}
use Rattle.line_profile.specs.Promises.{played_read}
use Rattle.line_profile.proofs.Judged.{breaks, keeps}
use Rattle.line_profile.proofs.inner.played.Goals as goal

pub returns-in_err-state : goal.returns-in_err-state
returns-in_err-state c =
    error_answered _ _ c.from_residual.ensures ∙ ap (λ x. played_read c.args.bitboards.now (answered x)) (sym c.in_err-state.was)

pub returns-in_err-judge : goal.returns-in_err-judge
returns-in_err-judge c =
    let a = c.args in
    error_answered _ _ c.from_residual-in_err-judge.ensures
    ∙ breaks a.bitboards.now a.answer c.in_ok-state.state c.in_ok-state.field-0-1 c.in_ok-state.was c.judge.result c.judge.ensures _ c.in_err-judge.was

pub returns : goal.returns
returns c =
    let a = c.args in
    keeps a.bitboards.now a.answer c.in_ok-state.state c.in_ok-state.field-0-1 c.in_ok-state.was c.judge.result c.judge.ensures c.in_ok-judge.was
