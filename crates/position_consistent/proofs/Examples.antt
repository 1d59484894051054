-- Worked examples of the definitions, by computation. Assumes nothing.
use mathlib.Core.Path.{◌≡◌, refl}
use mathlib.Core.Bool.{Bool, true, false}
use mathlib.Core.List.{List, [], ◌∷◌}
use Prim.Native.Nat.{ℕ}
use lib.ListN.{set}
use Rattle.laws.specs.Tables.{tabulate}
use Rattle.laws.specs.Tests.{all_below}
use Rattle.bits.specs.Bitboard.{has, some, how_many}
use Rattle.position_boards.specs.Sound.{boards_with, apart, of_colour, united}
use Rattle.position_boards.proofs.Examples.{start_boards, start_bytes}
use Rattle.position_consistent.specs.Consistent.{agrees}

-- "they don't overlap", the unions, the bytes: the three tests of a position
abbrev tests : List ℕ → List ℕ → List Bool
tests bbs bytes = all_below 64 (apart bbs) ∷ all_below 64 (united bbs) ∷ all_below 64 (agrees bbs bytes) ∷ []

start_fits : tests start_boards start_bytes ≡ true ∷ true ∷ true ∷ []
unfolding all_below boards_with of_colour how_many some has
start_fits = refl

-- ---- one position for each way to be inconsistent
-- a knight on c1, where the bishop stands too; White's board without a1; Black's with e5
boards_amiss : tests (set start_boards 4 0x46) start_bytes ∷ tests (set start_boards 0 0xFFFE) start_bytes
    ∷ tests (set start_boards 1 0xFFFF001000000000) start_bytes ∷ [] ≡ (false ∷ true ∷ true ∷ []) ∷ (true ∷ false ∷ true ∷ []) ∷ (true ∷ false ∷ true ∷ []) ∷ []
unfolding all_below boards_with of_colour how_many some has
boards_amiss = refl

-- a byte put on a square of the starting position
abbrev with_byte : ℕ → ℕ → List Bool
with_byte square byte = tests start_boards (set start_bytes square byte)

-- a bishop's on b1, where the knight stands; 0 on a1; a pawn's on e4; 1 and 14 there; 18 on a2, where 2 is right; 0 on h8
bytes_amiss : with_byte 1 8 ∷ with_byte 0 0 ∷ with_byte 28 2 ∷ with_byte 28 1 ∷ with_byte 28 14 ∷ with_byte 8 18 ∷ with_byte 63 0 ∷ []
    ≡ tabulate 7 (λ n. true ∷ true ∷ false ∷ [])
unfolding all_below boards_with of_colour how_many some has tabulate
bytes_amiss = refl

-- ---- "Any number of kings is allowed": the empty board, and two white kings on d1 and e1
abbrev none : ℕ → List ℕ
none n = tabulate n (λ k. 0)

kings : tests (none 14) (none 64) ∷ tests (set (set (none 14) 0 0x18) 6 0x18) (set (set (none 64) 3 6) 4 6) ∷ [] ≡ tabulate 2 (λ n. true ∷ true ∷ true ∷ [])
unfolding all_below boards_with of_colour how_many some has tabulate
kings = refl
