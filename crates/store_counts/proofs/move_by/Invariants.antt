use Rattle.std.proofs.Common.{◌≡◌}
use Rattle.store_counts.proofs.Marks.{marks_to}
use Rattle.store_counts.proofs.move_by.Given as goal

abbrev pub invariant-loop-k : goal.invariant-loop-k
invariant-loop-k l = l.summary ≡ marks_to l.initial.summary l.once l.bytes l.k
