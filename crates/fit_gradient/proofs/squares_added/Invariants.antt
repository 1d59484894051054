use mathlib.Core.Path.{◌≡◌}
use mathlib.Core.List.{List}
use Prim.Native.Nat.{ℕ, ◌*◌}
use lib.IntN.{ℤ}
use lib.Ieee.{Float}
use lib.ListN.{length}
use Rattle.bits.specs.Bitboard.{squares}
use Rattle.trace_marks.specs.Marks.{fold_from}
use Rattle.trace_marks.proofs.Walk as walk
use Rattle.fit_gradient.specs.Marks.{entry_by}
use Rattle.fit_gradient.specs.declared.Parts.{Parts}
use Rattle.fit_gradient.proofs.squares_added.Given as goal

-- the sums after so many groups
abbrev pub after : Parts → List ℤ → List Float → ℕ → List Float
after parts entries start g = fold_from (entry_by parts entries) start 0 (16 * g)

abbrev pub invariant-loop-group : goal.invariant-loop-group
invariant-loop-group l = (length l.gradient ≡ 779) × walk.Walk (after l.parts l.entries l.initial.gradient) 48 l.gradient l.rest

abbrev pub decreases-loop-group : goal.decreases-loop-group
decreases-loop-group l = length (squares l.rest)
