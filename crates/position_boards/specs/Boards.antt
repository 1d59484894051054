-- The bitboards of 64 board bytes. Definitions only.
use Rattle.std.specs.Prelude.{Bool, cond, ◌||◌, ◌&&◌, List, ℕ, eqb, ltb, get_or}
use Rattle.laws.specs.Tests.{all_below}
use Rattle.laws.specs.Tables.{tabulate}
use Rattle.chess.specs.Codes.{is_piece, colour_of}
use Rattle.bits.specs.Bitboard.{those}

-- a byte that a board may hold: "the code .., or 0"
abbrev pub is_byte : ℕ → Bool
is_byte byte = eqb byte 0 || is_piece byte

-- each of the 64 bytes is such a byte
unfoldable pub coded : List ℕ → Bool
coded bytes = all_below 64 (λ k. is_byte (get_or bytes k 0))

-- a byte stands on a board: a piece on that of its code, and on 0 or 1, that of its colour
abbrev pub stands_on : ℕ → ℕ → Bool
stands_on byte board = is_piece byte && cond (ltb board 2) (eqb (colour_of byte) board) (eqb byte board)

-- the 14 bitboards of 64 bytes; a byte that is no code stands on none
unfoldable pub bitboards_of : List ℕ → List ℕ
bitboards_of bytes = tabulate 14 (λ board. those 64 (λ k. stands_on (get_or bytes k 0) board))
