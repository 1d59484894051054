-- What a private function gives. Definitions only.
use Rattle.std.specs.Prelude.{Bool, not, cond, ◌&&◌, List, ℕ, eqb}
use Rattle.chess.specs.Codes.{is_piece}
use Rattle.bits.specs.Bitboard.{has}
use Rattle.position_boards.specs.Sound.{on}

-- a byte agrees with the boards at a square, the squares of all pieces together being known
abbrev pub byte_right : List ℕ → ℕ → ℕ → ℕ → Bool
byte_right bbs pieces byte k = cond (eqb byte 0) (not (has pieces k)) (is_piece byte && on bbs byte k)
