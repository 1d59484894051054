use mathlib.Core.Path.{◌≡◌}
use lib.Dec.{leb}
use Rattle.bits.specs.Bitboard.{those}
use Rattle.position_boards.proofs.Crowded.{among}
use Rattle.position_boards.proofs.shared.Given as goal

abbrev pub invariant-loop-b : goal.invariant-loop-b
invariant-loop-b l =
    (l.once ≡ those 64 (λ k. leb 1 (among l.bitboards l.b-index k))) × (l.twice ≡ those 64 (λ k. leb 2 (among l.bitboards l.b-index k)))
