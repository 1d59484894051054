-- `replay_question::number` meets its contract. Assumes nothing.
use mathlib.Core.Path.{◌∙◌}
use Rattle.replay_question.proofs.Folds.{minus_first, digit_first_holds}
use Rattle.replay_question.proofs.number.Goals as goal

pub returns-then-find-eq0 : goal.returns-then-find-eq0
returns-then-find-eq0 c =
    c.turned.ensures ∙ minus_first c.args.s.now c.text_before.result.now c.digits-n.result c.find.result
    c.text_before.ensures c.digits-n.ensures c.find.ensures c.if-find-eq0.true

pub returns : goal.returns
returns c =
    digit_first_holds c.args.s.now c.text_before.result.now c.digits-n.result c.find.result c.text_before.ensures
    c.digits-n.ensures c.find.ensures c.if-find-eq0.false
