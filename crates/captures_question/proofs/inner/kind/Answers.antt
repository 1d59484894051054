-- `captures_question::inner::kind` meets its contract. Assumes nothing.
use native.Mathlib.Omega.{arith}
use Rattle.captures_question.proofs.Fields.{six_letters}
use Rattle.captures_question.proofs.inner.kind.Goals as goal

pub overflow_cast-result : goal.overflow_cast-result
overflow_cast-result c = record { fits = omega (arith, c.find.ensures, six_letters c.args.letter) }
