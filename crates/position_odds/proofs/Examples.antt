-- Worked examples of the definitions, by computation. Assumes nothing.
use mathlib.Core.Path.{◌≡◌, refl}
use mathlib.Core.List.{List, [], ◌∷◌}
use Prim.Native.Nat.{ℕ}
use lib.ListN.{set}
use Rattle.laws.specs.Tests.{all_below}
use Rattle.refusal.specs.Answer.{Answer, given, refused}
use Rattle.bits.specs.Bitboard.{has, some, how_many, first_from}
use Rattle.position_boards.specs.Sound.{boards_with, of_colour}
use Rattle.position_boards.proofs.Examples.{start_boards, start_bytes}
use Rattle.position_odds.specs.Named.{lowest_wrong}
use Rattle.position_odds.specs.Odds.{or_odds}

abbrev answer : List ℕ → List ℕ → Answer Unit
answer bbs bytes = or_odds bbs bytes (given tt)

-- ---- OVERLAP: a white queen on c7 too; with a white knight on b7 too, the lower; codes 2 and 4 both at c7 (50), 12 and 13 both at c1 (2)
overlaps : List (Answer Unit)
unfolding or_odds lowest_wrong first_from all_below boards_with of_colour how_many some has
overlaps =
    answer (set start_boards 12 0x0004000000000008) start_bytes
    ∷ answer (set (set start_boards 12 0x0004000000000008) 4 0x0002000000000042) start_bytes
    ∷ answer (set (set (set (set start_boards 2 0x000400000000FF00) 4 0x0004000000000042) 12 0x000000000000000C) 13 0x0800000000000004) start_bytes
    ∷ []

overlaps_are : overlaps ≡ refused 14 (50 ∷ []) ∷ refused 14 (49 ∷ []) ∷ refused 14 (2 ∷ []) ∷ []
unfolding overlaps
overlaps_are = refl

-- ---- UNION: White's board with e6 too; Black's with d1 too, the lower of both; Black's without h8
unions : List (Answer Unit)
unfolding or_odds lowest_wrong first_from all_below boards_with of_colour how_many some has
unions =
    answer (set start_boards 0 0x000010000000FFFF) start_bytes
    ∷ answer (set (set start_boards 0 0x000010000000FFFF) 1 0xFFFF000000000008) start_bytes
    ∷ answer (set start_boards 1 0x7FFF000000000000) start_bytes
    ∷ []

unions_are : unions ≡ refused 15 (44 ∷ []) ∷ refused 15 (3 ∷ []) ∷ refused 15 (63 ∷ []) ∷ []
unfolding unions
unions_are = refl

-- ---- BYTEBOARD: a1's byte 0; those of h8 and c3 wrong, the lower; the starting position itself, of which nothing is at odds
bytes : List (Answer Unit)
unfolding or_odds lowest_wrong first_from all_below boards_with of_colour how_many some has
bytes =
    answer start_boards (set start_bytes 0 0) ∷ answer start_boards (set (set start_bytes 63 10) 18 2) ∷ answer start_boards (set start_bytes 63 0)
    ∷ answer start_boards start_bytes ∷ []

bytes_are : bytes ≡ refused 16 (0 ∷ []) ∷ refused 16 (18 ∷ []) ∷ refused 16 (63 ∷ []) ∷ given tt ∷ []
unfolding bytes
bytes_are = refl

-- ---- two faults at once, the first in order at the higher square and at the lower: a union with a byte, an overlap with a union, an overlap with a byte
-- Black's board without h8 and a1's byte 0; White's without a1 and h8's byte 0; two on h8 and White's board without a1; two on a1 and Black's
-- without h8; two on h8 and a1's byte 0; two on a1 and h8's byte 0
both : List (Answer Unit)
unfolding or_odds lowest_wrong first_from all_below boards_with of_colour how_many some has
both =
    answer (set start_boards 1 0x7FFF000000000000) (set start_bytes 0 0)
    ∷ answer (set start_boards 0 0xFFFE) (set start_bytes 63 0)
    ∷ answer (set (set start_boards 0 0xFFFE) 13 0x8800000000000000) start_bytes
    ∷ answer (set (set start_boards 1 0x7FFF000000000000) 12 0x0000000000000009) start_bytes
    ∷ answer (set start_boards 13 0x8800000000000000) (set start_bytes 0 0)
    ∷ answer (set start_boards 12 0x0000000000000009) (set start_bytes 63 0)
    ∷ []

both_are : both ≡ refused 15 (63 ∷ []) ∷ refused 15 (0 ∷ []) ∷ refused 14 (63 ∷ []) ∷ refused 14 (0 ∷ []) ∷ refused 14 (63 ∷ []) ∷ refused 14 (0 ∷ []) ∷ []
unfolding both
both_are = refl
