-- Eight ranks, as the PGN standard's FEN writes them (document 01, "A collection's line"), and the board that they spell. Definitions only.
use Rattle.std.specs.Prelude.{Bool, true, false, cond, not, ◌||◌, ◌&&◌, List, [], ◌∷◌, ◌++◌, ℕ, zero, suc, ◌-◌, eqb, leb, length, replicate}
use Prim.Native.Char.{code}
use Rattle.text_in.specs.Text.{slash, every, before, after}

-- "letters PNBRQKpnbrqk": the code of a letter's piece, 0 for a byte that is none of them
unfoldable pub piece_of : ℕ → ℕ
piece_of b =
    cond (eqb b (code "P")) 2 (cond (eqb b (code "p")) 3
    (cond (eqb b (code "N")) 4 (cond (eqb b (code "n")) 5
    (cond (eqb b (code "B")) 8 (cond (eqb b (code "b")) 9
    (cond (eqb b (code "R")) 10 (cond (eqb b (code "r")) 11
    (cond (eqb b (code "Q")) 12 (cond (eqb b (code "q")) 13
    (cond (eqb b (code "K")) 6 (cond (eqb b (code "k")) 7
    0)))))))))))

-- "digits 1 to 8": how many empty squares a digit stands for, 0 for a byte that is none of them
unfoldable pub run_of : ℕ → ℕ
run_of b = cond (leb (code "1") b && leb b (code "8")) (b - code "0") 0

abbrev pub is_digit_rule : ℕ → Bool
is_digit_rule b = not (eqb (run_of b) 0)

-- a letter or a digit
abbrev pub is_mark : ℕ → Bool
is_mark b = not (eqb (piece_of b) 0) || is_digit_rule b

-- the squares that it stands for: a digit so many empty ones, a letter its piece
abbrev pub spelled : ℕ → List ℕ
spelled b = cond (eqb (run_of b) 0) (piece_of b ∷ []) (replicate (run_of b) 0)

-- the squares of a rank, from file a on
unfoldable pub squares_of : List ℕ → List ℕ
unfolding piece_of run_of
squares_of [] = []
squares_of (b ∷ s) = spelled b ++ squares_of s

-- a digit comes first
unfoldable pub digit_first : List ℕ → Bool
unfolding run_of
digit_first [] = false
digit_first (b ∷ s) = is_digit_rule b

-- W-203: "the run must be written whole", so no digit comes right after a digit
unfoldable pub whole_runs : List ℕ → Bool
unfolding run_of digit_first
whole_runs [] = true
whole_runs (b ∷ s) = not (is_digit_rule b && digit_first s) && whole_runs s

-- a rank: "letters PNBRQKpnbrqk and digits 1 to 8 totalling eight", and W-203: "Two digits in a row are refused"
abbrev pub is_rank : List ℕ → Bool
is_rank s = every is_mark s && (whole_runs s && eqb (length (squares_of s)) 8)

-- ranks "joined by `/`": this one, and n more below it
unfoldable pub are_ranks : ℕ → List ℕ → Bool
unfolding every before after piece_of run_of digit_first whole_runs squares_of
are_ranks zero s = is_rank s
are_ranks (suc n) s = is_rank (before slash s) && are_ranks n (after slash s)

-- what stands on their squares, the lowest rank first
unfoldable pub stacked : ℕ → List ℕ → List ℕ
unfolding before after piece_of run_of squares_of
stacked zero s = squares_of s
stacked (suc n) s = stacked n (after slash s) ++ squares_of (before slash s)

-- "eight ranks from 8 to 1", and the 64 board bytes that they spell, from a1 on
abbrev pub are_eight_ranks : List ℕ → Bool
are_eight_ranks s = are_ranks 7 s

abbrev pub board_of : List ℕ → List ℕ
board_of s = stacked 7 s
