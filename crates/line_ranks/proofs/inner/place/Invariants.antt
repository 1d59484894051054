use Rattle.line_ranks.proofs.Placing.{Turn}
use Rattle.line_ranks.proofs.inner.place.Given as goal

abbrev pub invariant-loop-b : goal.invariant-loop-b
invariant-loop-b l = Turn l.s l.board l.rank l.file l.digit l.b-index
