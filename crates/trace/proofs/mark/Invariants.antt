use mathlib.Core.Path.{◌≡◌}
use Prim.Native.Nat.{◌^◌, ◌<◌}
use lib.ListN.{length}
use Rattle.bits.specs.Bitboard.{squares}
use Rattle.trace.specs.PrivateMarked.{marked}
use Rattle.trace.proofs.mark.Given as goal

abbrev pub invariant-loop-s : goal.invariant-loop-s
invariant-loop-s l =
    (l.rest < 2 ^ 64) × (marked l.board l.entries (squares l.rest) ≡ marked l.board l.initial.entries (squares l.occupied)) × (length l.entries ≡ 768)

abbrev pub decreases-loop-s : goal.decreases-loop-s
decreases-loop-s l = length (squares l.rest)
