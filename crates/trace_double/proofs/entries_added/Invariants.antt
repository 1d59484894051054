use Prim.Native.Nat.{ℕ, ◌*◌}
use lib.IntN.{ℤ}
use lib.Ieee.{Float}
use lib.ListN.{length}
use mathlib.Core.List.{List}
use Rattle.bits.specs.Bitboard.{squares}
use Rattle.trace_marks.proofs.Walk as walk
use Rattle.trace_double.specs.PrivateFrom.{entries_from}
use Rattle.trace_double.proofs.entries_added.Given as goal

-- the score after so many groups
abbrev pub after : List Float → Float → List ℤ → Float → ℕ → Float
after weights x entries start g = entries_from weights x entries start 0 (16 * g)

abbrev pub invariant-loop-group : goal.invariant-loop-group
invariant-loop-group l = walk.Walk (after l.squares l.x l.entries l.start) 48 l.score l.rest

abbrev pub decreases-loop-group : goal.decreases-loop-group
decreases-loop-group l = length (squares l.rest)
