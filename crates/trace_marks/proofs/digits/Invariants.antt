use mathlib.Core.Path.{◌≡◌}
use Rattle.trace_marks.specs.Marks.{odd_at, marks}
use Rattle.trace_marks.proofs.digits.Given as goal

abbrev pub invariant-loop-j : goal.invariant-loop-j
invariant-loop-j l = l.digits ≡ marks (odd_at l.entries l.group) l.j
