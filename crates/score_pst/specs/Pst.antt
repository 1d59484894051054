-- The square weights: which entry of which grid a piece takes, and the table of all of them. Definitions only.
use Rattle.std.specs.Prelude.{cond, List, [], ◌∷◌, ℕ, ◌/◌, ◌%◌, eqb, ℤ, pos, get_or}
use Rattle.std.specs.Int.Bits.{bit_xor}
use Rattle.laws.specs.Tables.{tabulate}
use Rattle.chess.specs.Codes.{is_piece, kind_of, colour_of}
use Rattle.chess.specs.Named.{white}
use Rattle.places.specs.Places.{entry_place}
use Rattle.score_pst.specs.Grids as G

-- "document 003's twelve printed grids": of each phase those of pawn, knight, bishop, rook, queen, king
abbrev pub grids : List (List (List ℤ))
grids =
    (G.pawn_opening ∷ G.knight_opening ∷ G.bishop_opening ∷ G.rook_opening ∷ G.queen_opening ∷ G.king_opening ∷ [])
    ∷ (G.pawn_ending ∷ G.knight_ending ∷ G.bishop_ending ∷ G.rook_ending ∷ G.queen_ending ∷ G.king_ending ∷ [])
    ∷ []

-- "A white piece on square s takes grid entry s xor 56, a black piece entry s"
abbrev pub grid_entry : ℕ → ℕ → ℕ
grid_entry colour s = cond (eqb colour white) (bit_xor s 56) s

-- "Codes 0 and 1 hold zeros"; nor does a number that is no code, square or phase weigh anything
unfoldable pub pst_of : ℕ → ℕ → ℕ → ℤ
pst_of code square phase =
    cond (is_piece code) (get_or (get_or (get_or grids phase []) (kind_of code) []) (grid_entry (colour_of code) square) (pos 0)) (pos 0)

-- "14 codes, 64 squares, 2 phases", in this order: where the table has a weight, reckoned as an entry's place is
abbrev pub pst_place : ℕ → ℕ → ℕ → ℕ
pst_place = entry_place

-- "all 1,792 numbers of PST"
unfoldable pub pst_table : List ℤ
unfolding tabulate pst_of
pst_table = tabulate 1792 (λ i. pst_of (i / 128) (i % 128 / 2) (i % 2))

-- a weight read from a table; past its end stands 0
abbrev pub weight_in : List ℤ → ℕ → ℕ → ℕ → ℤ
weight_in pst code square phase = get_or pst (pst_place code square phase) (pos 0)
