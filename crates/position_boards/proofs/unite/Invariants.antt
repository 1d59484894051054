use mathlib.Core.Path.{◌≡◌}
use Rattle.bits.specs.Bitboard.{those}
use Rattle.position_boards.proofs.Crowded.{among_colour}
use Rattle.position_boards.proofs.unite.Given as goal

abbrev pub invariant-loop-n : goal.invariant-loop-n
invariant-loop-n l = l.all ≡ those 64 (among_colour l.bitboards l.color l.n)
