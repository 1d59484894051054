-- `replay_question::position` meets its contract. Assumes nothing.
use native.Mathlib.Omega.{arith}
use Rattle.replay_question.specs.Question.{position_of}
use Rattle.replay_question.proofs.Folds.{slashed_stop, slashed_space, slashed_more, slashed_end}
use Rattle.replay_question.proofs.position.Goals as goal
use Rattle.replay_question.proofs.position.Goals.{then-b-eq32, else-b-eq32}

pub returns-then-b-eq47 : goal.returns-then-b-eq47
returns-then-b-eq47 c = let l = c.loop-i in
    let q = c.args.question.now in
    slashed_stop q (position_of q) l.part.now l.i l.invariant (omega arith) c.if-b-eq47.true

pub loop-i-preserved : goal.loop-i-preserved
loop-i-preserved c = let l = c.loop-i in
    let q = c.args.question.now in
    elim c.if-b-eq32.branch [
      | then-b-eq32 w ↦ rw w.part-is (slashed_space q (position_of q) l.part.now l.i l.invariant (omega arith) w.if-b-eq32.true)
      | else-b-eq32 w ↦ rw w.part-is (slashed_more q (position_of q) l.part.now l.i l.invariant (omega arith) c.if-b-eq47.false w.if-b-eq32.false)
    ]

pub returns : goal.returns
returns c = let l = c.loop-i in
    let q = c.args.question.now in
    slashed_end q (position_of q) l.part.now l.i l.invariant (omega arith)
