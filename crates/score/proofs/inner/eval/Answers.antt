-- `score::inner::eval` meets its contract: each return is one of the laws of `Settled`. Assumes nothing.
use mathlib.Core.Path.{ap, sym, ◌∙◌}
use Rattle.std.specs.Prelude.{Some}
use Rattle.score_taper.specs.Answers.{points}
use Rattle.score_verdict.specs.Answers.{verdict_paper}
use Rattle.score_verdict.specs.declared.Verdict.{Verdict}
use Rattle.score.proofs.Settled as laws
use Rattle.score.proofs.inner.eval.Goals as goal

pub returns-in_default-summed : goal.returns-in_default-summed
returns-in_default-summed c =
    let a = c.args in
    laws.score_over a.bitboards.now a.state (sym (ap verdict_paper c.in_default.is) ∙ c.ending.ensures)
    (sym (ap points c.in_default-summed.is) ∙ c.summed.ensures)

pub returns-in_default : goal.returns-in_default
returns-in_default c =
    let a = c.args in
    laws.score_is a.bitboards.now a.state c.in-Some-summed.points (sym (ap verdict_paper c.in_default.is) ∙ c.ending.ensures)
    (sym (ap points c.in-Some-summed.is) ∙ c.summed.ensures)

pub returns-in-Lost : goal.returns-in-Lost
returns-in-Lost c =
    let a = c.args in
    laws.score_lost a.bitboards.now a.state
    (sym (ap (λ (v : Verdict). verdict_paper (Some v)) c.in-Lost.is) ∙ sym (ap verdict_paper c.in-Some.is) ∙ c.ending.ensures)

pub returns-in-Won : goal.returns-in-Won
returns-in-Won c =
    let a = c.args in
    laws.score_won a.bitboards.now a.state
    (sym (ap (λ (v : Verdict). verdict_paper (Some v)) c.in-Won.is) ∙ sym (ap verdict_paper c.in-Some.is) ∙ c.ending.ensures)

pub returns-in-Drawn : goal.returns-in-Drawn
returns-in-Drawn c =
    let a = c.args in
    laws.score_drawn a.bitboards.now a.state
    (sym (ap (λ (v : Verdict). verdict_paper (Some v)) c.in-Drawn.is) ∙ sym (ap verdict_paper c.in-Some.is) ∙ c.ending.ensures)
