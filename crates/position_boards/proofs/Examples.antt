-- Worked examples of the definitions, by computation. Assumes nothing.
use mathlib.Core.Path.{◌≡◌, refl}
use mathlib.Core.Bool.{true, false}
use mathlib.Core.List.{List, [], ◌∷◌, ◌++◌}
use Prim.Native.Nat.{ℕ, ◌+◌}
use lib.ListN.{set}
use Rattle.laws.specs.Tables.{tabulate}
use Rattle.laws.specs.Tests.{all_below}
use Rattle.bits.specs.Bitboard.{those}
use Rattle.position_boards.specs.Boards.{coded, bitboards_of}

-- ---- the starting position
abbrev pub start_boards : List ℕ
start_boards =
    0x000000000000FFFF ∷ 0xFFFF000000000000 ∷ 0x000000000000FF00 ∷ 0x00FF000000000000 ∷ 0x0000000000000042 ∷ 0x4200000000000000 ∷ 0x0000000000000010
    ∷ 0x1000000000000000 ∷ 0x0000000000000024 ∷ 0x2400000000000000 ∷ 0x0000000000000081 ∷ 0x8100000000000000 ∷ 0x0000000000000008 ∷ 0x0800000000000000 ∷ []

abbrev eight : ℕ → List ℕ
eight byte = byte ∷ byte ∷ byte ∷ byte ∷ byte ∷ byte ∷ byte ∷ byte ∷ []

-- rook, knight, bishop, queen, king, bishop, knight, rook of a colour
abbrev pieces : ℕ → List ℕ
pieces colour = (10 + colour) ∷ (4 + colour) ∷ (8 + colour) ∷ (12 + colour) ∷ (6 + colour) ∷ (8 + colour) ∷ (4 + colour) ∷ (10 + colour) ∷ []

abbrev pub start_bytes : List ℕ
start_bytes = pieces 0 ++ eight 2 ++ eight 0 ++ eight 0 ++ eight 0 ++ eight 0 ++ eight 3 ++ pieces 1

start_made : bitboards_of start_bytes ≡ start_boards
unfolding bitboards_of tabulate those
start_made = refl

-- ---- bytes to bitboards: 1 and 14 are no codes, and stand on no board
strays : coded start_bytes ∷ coded (set start_bytes 28 1) ∷ coded (set start_bytes 28 14) ∷ [] ≡ true ∷ false ∷ false ∷ []
unfolding coded all_below
strays = refl

strays_stand_nowhere : bitboards_of (set (set start_bytes 28 1) 29 14) ≡ start_boards
unfolding bitboards_of tabulate those
strays_stand_nowhere = refl
