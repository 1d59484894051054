use mathlib.Core.Path.{◌≡◌}
use Prim.Native.Nat.{ℕ, ◌<◌}
use lib.Ieee.{nan}
use lib.ListN.{get_or}
use Rattle.doubles.specs.Doubles.{dbl}
use Rattle.trace_shipped.specs.Weights.{square_weight}
use Rattle.trace_shipped.proofs.fill.Given as goal

abbrev pub invariant-loop-place : goal.invariant-loop-place
invariant-loop-place l = (j : ℕ) → j < l.place → get_or l.squares j nan ≡ dbl (square_weight j)
