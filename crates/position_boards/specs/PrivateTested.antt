-- What the private functions give: whole bitboards and tables, where the definitions go square by square. Definitions only.
use Rattle.std.specs.Prelude.{cond, List, ℕ, leb, ltb, get_or}
use Rattle.laws.specs.Tables.{tabulate}
use Rattle.bits.specs.Bitboard.{those}
use Rattle.position_boards.specs.Sound.{boards_with, of_colour}

-- the squares that so many piece boards have, or more
abbrev pub shared_by : List ℕ → ℕ → ℕ
shared_by bbs many = those 64 (λ k. leb many (boards_with bbs k))

-- the squares of a colour's piece boards
abbrev pub colour_squares : List ℕ → ℕ → ℕ
colour_squares bbs colour = those 64 (of_colour bbs colour)

-- the boards of the sorted bytes
unfoldable pub boards_by : List ℕ → List ℕ
boards_by squares = tabulate 14 (λ board. cond (ltb board 2) (colour_squares squares board) (get_or squares board 0))
