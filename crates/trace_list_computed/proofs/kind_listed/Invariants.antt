use lib.ListN.{length}
use Rattle.bits.specs.Bitboard.{squares}
use Rattle.trace_marks.proofs.Walk as walk
use Rattle.trace_list_computed.proofs.Squares.{made_to}
use Rattle.trace_list_computed.proofs.kind_listed.Given as goal

abbrev pub invariant-loop-s : goal.invariant-loop-s
invariant-loop-s l = walk.Walk (made_to l.bitboards l.kind) 64 (l.n, l.bytes) l.rest

abbrev pub decreases-loop-s : goal.decreases-loop-s
decreases-loop-s l = length (squares l.rest)
