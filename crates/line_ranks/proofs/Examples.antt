-- Worked examples of the definitions, by computation. Assumes nothing.
use mathlib.Core.Path.{◌≡◌, refl}
use mathlib.Core.Bool.{Bool, true, false}
use mathlib.Core.List.{[], ◌∷◌, map}
use Prim.Native.String.{String}
use Rattle.text_in.specs.Text.{text}
use Rattle.line_ranks.specs.Ranks.{piece_of, squares_of, are_ranks, stacked}

-- the letters in document 01's order, and bytes beside them
letters : map piece_of (text "PNBRQKpnbrqkAOwW1") ≡ 2 ∷ 4 ∷ 8 ∷ 10 ∷ 12 ∷ 6 ∷ 3 ∷ 5 ∷ 9 ∷ 11 ∷ 13 ∷ 7 ∷ 0 ∷ 0 ∷ 0 ∷ 0 ∷ 0 ∷ []
unfolding piece_of
letters = refl

-- a rank from file a to file h
a_rank : squares_of (text "r1b2k2") ≡ 11 ∷ 0 ∷ 9 ∷ 0 ∷ 0 ∷ 7 ∷ 0 ∷ 0 ∷ []
unfolding squares_of
a_rank = refl

-- the starting position: rank 1 comes first on the board and last in the text
start : stacked 7 (text "rnbqkbnr/pppppppp/8/8/8/8/PPPPPPPP/RNBQKBNR") ≡
    10 ∷ 4 ∷ 8 ∷ 12 ∷ 6 ∷ 8 ∷ 4 ∷ 10
    ∷ 2 ∷ 2 ∷ 2 ∷ 2 ∷ 2 ∷ 2 ∷ 2 ∷ 2
    ∷ 0 ∷ 0 ∷ 0 ∷ 0 ∷ 0 ∷ 0 ∷ 0 ∷ 0
    ∷ 0 ∷ 0 ∷ 0 ∷ 0 ∷ 0 ∷ 0 ∷ 0 ∷ 0
    ∷ 0 ∷ 0 ∷ 0 ∷ 0 ∷ 0 ∷ 0 ∷ 0 ∷ 0
    ∷ 0 ∷ 0 ∷ 0 ∷ 0 ∷ 0 ∷ 0 ∷ 0 ∷ 0
    ∷ 3 ∷ 3 ∷ 3 ∷ 3 ∷ 3 ∷ 3 ∷ 3 ∷ 3
    ∷ 11 ∷ 5 ∷ 9 ∷ 13 ∷ 7 ∷ 9 ∷ 5 ∷ 11 ∷ []
unfolding stacked
start = refl

good : String → Bool
unfolding are_ranks
good s = are_ranks 7 (text s)

-- taken: the starting position; an empty board, digits of two ranks beside a `/`; digits on both sides of a letter
taken :
    good "rnbqkbnr/pppppppp/8/8/8/8/PPPPPPPP/RNBQKBNR" ∷ good "8/8/8/8/8/8/8/8" ∷ good "p6p/1p4p1/8/8/8/8/8/3K4" ∷ good "1p1p1p1p/8/8/8/8/8/8/8" ∷ []
    ≡ true ∷ true ∷ true ∷ true ∷ []
unfolding good
taken = refl

-- W-203: a run written in two or more, whole ranks and beside pieces
cut_runs :
    good "44/8/8/8/8/8/8/8" ∷ good "8/8/8/8/53/8/8/8" ∷ good "8/8/8/8/8/8/8/11111111" ∷ good "8/8/8/1p11p3/8/8/8/8" ∷ good "8/8/8/8/8/8/8/p34"
    ∷ good "pppppp11/8/8/8/8/8/8/8" ∷ []
    ≡ false ∷ false ∷ false ∷ false ∷ false ∷ false ∷ []
unfolding good
cut_runs = refl

-- refused: `0`, `9`, seven squares, nine squares, seven ranks, nine ranks, an empty rank, a `/` too many, a letter that is none, nothing at all
not_taken :
    good "80/8/8/8/8/8/8/8" ∷ good "9/8/8/8/8/8/8/8" ∷ good "7/8/8/8/8/8/8/8" ∷ good "8/8/8/8/8/8/8/8p" ∷ good "8/8/8/8/8/8/8" ∷ good "8/8/8/8/8/8/8/8/8"
    ∷ good "8/8/8//8/8/8/8" ∷ good "8/8/8/8/8/8/8/8/" ∷ good "8/8/8/8/8/8/8/7x" ∷ good "" ∷ []
    ≡ false ∷ false ∷ false ∷ false ∷ false ∷ false ∷ false ∷ false ∷ false ∷ false ∷ []
unfolding good
not_taken = refl
