use Rattle.line_tail.proofs.Laws.{Read}
use Rattle.line_tail.proofs.counters.figures.Given as goal

abbrev pub invariant-loop-b : goal.invariant-loop-b
invariant-loop-b l = Read l.s l.n l.b-index
