use mathlib.Core.Path.{◌≡◌}
use lib.ListN.{drop}
use Rattle.replay_question.specs.Question.{slashed, position_of}
use Rattle.replay_question.proofs.position.Given as goal

abbrev pub invariant-loop-i : goal.invariant-loop-i
invariant-loop-i l = position_of l.question ≡ slashed l.part (drop l.i l.question)
