use Rattle.ledger_plain_row.proofs.Laws.{Run}
use Rattle.ledger_plain_row.proofs.figures.Given as goal

abbrev pub invariant-loop-i : goal.invariant-loop-i
invariant-loop-i l = Run l.s l.n l.i
