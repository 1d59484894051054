use Rattle.captures_close.proofs.Columns.{SoMany}
use Rattle.captures_close.proofs.write_captures.Given as goal

abbrev pub invariant-loop-i : goal.invariant-loop-i
invariant-loop-i l = SoMany l.line l.from l.kind l.taken l.initial.out l.out l.n l.i l.at
