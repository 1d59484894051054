use mathlib.Core.Path.{◌≡◌}
use Prim.Native.Nat.{◌*◌}
use lib.ListN.{length}
use Rattle.bits.specs.Bitboard.{squares}
use Rattle.trace_marks.specs.Marks.{fold_from}
use Rattle.trace_marks.proofs.Walk as walk
use Rattle.fit_gradient.specs.Marks.{entry_by}
use Rattle.fit_gradient.proofs.group_marked.Given as goal

abbrev pub invariant-loop-j : goal.invariant-loop-j
invariant-loop-j l = (length l.gradient ≡ 779)
    × walk.Walk (fold_from (entry_by l.parts l.entries) l.initial.gradient (16 * l.group)) 16 l.gradient l.rest

abbrev pub decreases-loop-j : goal.decreases-loop-j
decreases-loop-j l = length (squares l.rest)
