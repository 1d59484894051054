-- The text of a board, as the PGN standard's FEN has it (16.1.3.1, "Piece placement data"). Definitions only.
use Rattle.std.specs.Prelude.{List, [], ◌∷◌, ◌++◌, ℕ, zero, suc, ◌+◌, ◌*◌, take, drop, get_or}
use Prim.Native.Char.{code}
use Rattle.text_in.specs.Text.{text, slash}

-- "letters PNBRQKpnbrqk": the letter of a piece's code, in the codes' order from 2 on; 0 for a number that is none of them
unfoldable pub letter_of : ℕ → ℕ
letter_of c = get_or (0 ∷ 0 ∷ text "PpNnKkBbRrQq") c 0

-- W-203: "a digit stand for the number of contiguous empty squares"; nothing for none
abbrev pub run_digit : ℕ → List ℕ
run_digit zero = []
run_digit (suc n) = (code "0" + suc n) ∷ []

-- the text of the squares from left to right, after a run of n empty ones that is not written yet: "the run must be written whole"
unfoldable pub spelt : ℕ → List ℕ → List ℕ
unfolding letter_of
spelt n [] = run_digit n
spelt n (zero ∷ squares) = spelt (suc n) squares
spelt n (suc c ∷ squares) = run_digit n ++ (letter_of (suc c) ∷ spelt 0 squares)

-- the eight squares of a rank from file a on; rank 1 is 0
abbrev pub rank_of : ℕ → List ℕ → List ℕ
rank_of rank board = take 8 (drop (8 * rank) board)

-- a rank's text is a function of its eight squares
abbrev pub rank_text : ℕ → List ℕ → List ℕ
rank_text rank board = spelt 0 (rank_of rank board)

-- this rank and those below it, "joined by `/`"
unfoldable pub ranks_text : ℕ → List ℕ → List ℕ
unfolding spelt
ranks_text zero board = rank_text 0 board
ranks_text (suc n) board = rank_text (suc n) board ++ (slash ∷ ranks_text n board)

-- "eight ranks from 8 to 1"
abbrev pub placement : List ℕ → List ℕ
placement board = ranks_text 7 board
