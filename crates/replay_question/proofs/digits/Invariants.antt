use mathlib.Core.Path.{◌≡◌}
use lib.ListN.{drop}
use Rattle.replay_question.specs.Question.{digits}
use Rattle.replay_question.proofs.digits.Given as goal

abbrev pub invariant-loop-b : goal.invariant-loop-b
invariant-loop-b l = digits 0 l.s ≡ digits l.n (drop l.b-index l.s)
