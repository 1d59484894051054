-- `replay_question::numbers` meets its contract. Assumes nothing.
use Rattle.replay_question.proofs.Folds.{five}
use Rattle.replay_question.proofs.numbers.Goals as goal

pub returns : goal.returns
returns c = let number = c.number in
    let a = c in
    five a.args.question.now a.text_after-a.result.now c.text_after-b.result.now c.text_after-c.result.now
    c.text_after-d.result.now c.text_after-e.result.now a.text_after-a.ensures c.text_after-b.ensures c.text_after-c.ensures
    c.text_after-d.ensures c.text_after-e.ensures number.result c.number-2.result
    c.number-3.result c.number-4.result c.number-5.result number.ensures
    c.number-2.ensures c.number-3.ensures c.number-4.ensures c.number-5.ensures
