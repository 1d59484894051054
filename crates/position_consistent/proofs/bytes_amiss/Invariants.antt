use mathlib.Core.Path.{◌≡◌}
use mathlib.Core.Bool.{Bool}
use mathlib.Core.List.{List}
use Prim.Native.Nat.{ℕ}
use lib.Dec.{eqb}
use Rattle.laws.specs.Tests.{all_below}
use Rattle.position_consistent.specs.PrivateTested.{file_codes, file_right}
use Rattle.position_consistent.proofs.bytes_amiss.Given as goal

abbrev pub right-on : List ℕ → ℕ → ℕ → ℕ → ℕ → ℕ → Bool
right-on board ones twos fours eights file = file_right board (file_codes ones twos fours eights file) file

abbrev pub invariant-loop-file : goal.invariant-loop-file
invariant-loop-file l = eqb l.amiss 0 ≡ all_below l.file (right-on l.board l.ones l.twos l.fours l.eights)
