-- `replay_question::digits` meets its contract. Assumes nothing.
use native.Mathlib.Omega.{arith}
use Rattle.replay_question.specs.Question.{digits}
use Rattle.replay_question.proofs.Folds.{digits_more, digits_end}
use Rattle.replay_question.proofs.digits.Goals as goal

pub loop-b-preserved : goal.loop-b-preserved
loop-b-preserved c =
    let l = c.loop-b in
    let s = c.args.s.now in
    digits_more s (digits 0 s) l.b-index l.n l.invariant (omega arith) c.with_digit-n.result c.with_digit-n.ensures

pub returns : goal.returns
returns c =
    let l = c.loop-b in
    let s = c.args.s.now in
    digits_end s (digits 0 s) l.b-index l.n l.invariant (omega arith)
