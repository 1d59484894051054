use mathlib.Core.Path.{◌≡◌}
use Prim.Native.Nat.{◌-◌}
use Rattle.bits.specs.Bitboard.{those}
use Rattle.position_consistent.proofs.Planes.{among_digit}
use Rattle.position_consistent.proofs.plane.Given as goal

abbrev pub invariant-loop-code : goal.invariant-loop-code
invariant-loop-code l = l.all ≡ those 64 (among_digit l.bitboards l.digit (l.code - 2))
