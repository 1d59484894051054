-- Positions and squares as a player writes them: the ranks of a FEN and a square's name. Definitions only.
use Rattle.std.specs.Prelude.{List, ℕ, get_or}
use Prim.Native.String.{String}
use Rattle.laws.specs.Tables.{tabulate}
use Rattle.chess.specs.Named.{square_of}
use Rattle.bits.specs.Bitboard.{those}
use Rattle.position_boards.specs.Boards.{bitboards_of}
use Rattle.text_in.specs.Text.{text, before, after}
use Rattle.line_ranks.specs.Ranks.{piece_of, run_of, squares_of, stacked, board_of}

-- the 64 bytes of eight ranks
unfoldable pub bytes_of : String → List ℕ
unfolding before after piece_of run_of squares_of stacked
bytes_of ranks = board_of (text ranks)

-- their 14 bitboards
unfoldable pub boards_of : String → List ℕ
unfolding bytes_of bitboards_of tabulate those
boards_of ranks = bitboards_of (bytes_of ranks)

-- a square by its name
abbrev pub square_named : String → ℕ
square_named name = square_of (get_or (text name) 0 0) (get_or (text name) 1 0)
