use mathlib.Core.Path.{◌≡◌}
use Prim.Native.Nat.{◌+◌, ◌*◌}
use lib.ListN.{get_or}
use Rattle.position_planes.specs.PrivatePlanes.{Row, stack}
use Rattle.position_planes.proofs.word.Given as goal

abbrev pub invariant-loop-file : goal.invariant-loop-file
invariant-loop-file l = (l.word ≡ stack (λ j. get_or l.board (8 * l.rank + j) 0) l.file) × Row l.board l.rank l.file
