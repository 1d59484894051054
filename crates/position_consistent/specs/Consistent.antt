-- A position's consistency (document 01, "A consistent position": "14 bitboards, 64 board bytes, a side"). Definitions only.
use Rattle.std.specs.Prelude.{Bool, cond, ◌&&◌, List, ℕ, eqb, get_or}
use Rattle.laws.specs.Tests.{all_below}
use Rattle.chess.specs.Codes.{is_piece}
use Rattle.position_boards.specs.Sound.{on, boards_with, apart, united}

-- "each board byte is the code whose bit is set there, or 0": 0 where no piece board has the square
abbrev pub agrees : List ℕ → List ℕ → ℕ → Bool
agrees bbs bytes k =
    let byte : ℕ = get_or bytes k 0 in
    cond (eqb byte 0) (eqb (boards_with bbs k) 0) (is_piece byte && on bbs byte k)

-- "Consistent means": the three, over all squares, in this order
unfoldable pub consistent : List ℕ → List ℕ → Bool
consistent bbs bytes = all_below 64 (apart bbs) && all_below 64 (united bbs) && all_below 64 (agrees bbs bytes)
