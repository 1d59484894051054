use Prim.Native.Nat.{◌*◌}
use lib.ListN.{length}
use Rattle.bits.specs.Bitboard.{squares}
use Rattle.trace_marks.proofs.Walk as walk
use Rattle.trace_double.specs.PrivateFrom.{entries_from}
use Rattle.trace_double.proofs.group_added.Given as goal

abbrev pub invariant-loop-j : goal.invariant-loop-j
invariant-loop-j l = walk.Walk (entries_from l.squares l.x l.entries l.start (16 * l.group)) 16 l.score l.rest

abbrev pub decreases-loop-j : goal.decreases-loop-j
decreases-loop-j l = length (squares l.rest)
