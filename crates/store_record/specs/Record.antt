-- One record of a store (document 02, W-205): "34 bytes, no header: 32 bytes of two squares each, lower square in the low half, then side,
-- then half points". Definitions only.
use Rattle.std.specs.Prelude.{Bool, cond, List, [], ◌∷◌, ◌++◌, ℕ, ◌+◌, ◌*◌, ◌/◌, ◌%◌, eqb, ltb, length, get_or, take, drop}
use Rattle.laws.specs.Tables.{tabulate}
use Rattle.refusal.specs.Answer.{Answer, given, or_refuse}
use Rattle.refusal.specs.declared.Refusal.TheVariants as R
use Rattle.position_boards.specs.Boards.{is_byte}
use Rattle.position_odds.specs.Named.{or_named}
use Rattle.position.specs.Checked.{of_side}
use Rattle.line_parse.specs.Line.{Line}

-- ---- the record of a position and a result
-- "two squares each, lower square in the low half"
abbrev pub two_squares : ℕ → ℕ → ℕ
two_squares low high = low % 16 + 16 * (high % 16)

-- "32 bytes of two squares each .., then side, then half points"
unfoldable pub record_of : Line → List ℕ
record_of l = tabulate 32 (λ i. two_squares (get_or l.board (2 * i) 0) (get_or l.board (2 * i + 1) 0)) ++ (l.state.side ∷ l.half ∷ [])

-- "W-205 records don't use" rights, en passant square and counters: what a record holds of a line, the rest as where it is not given
abbrev pub in_record : Line → Line
in_record l = record { state = of_side l.state.side; half = l.half; board = l.board }

-- ---- what a record says
-- the low half is the even square's, the high half the odd one's
abbrev pub half_byte : ℕ → ℕ → ℕ
half_byte byte k = cond (eqb (k % 2) 0) (byte % 16) (byte / 16 % 16)

-- what stands on a square
abbrev pub code_in : List ℕ → ℕ → ℕ
code_in bytes k = half_byte (get_or bytes (k / 2) 0) k

unfoldable pub board_in : List ℕ → List ℕ
board_in bytes = tabulate 64 (code_in bytes)

abbrev pub side_in : List ℕ → ℕ
side_in bytes = get_or bytes 32 0

abbrev pub half_in : List ℕ → ℕ
half_in bytes = get_or bytes 33 0

-- a square of a board has 0 or a piece's code: "Codes 1, 14 and 15" are neither
abbrev pub is_code : List ℕ → ℕ → Bool
is_code board k = is_byte (get_or board k 0)

-- the position and the result of 34 bytes
abbrev pub position_in : List ℕ → Line
position_in bytes = record { state = of_side (side_in bytes); half = half_in bytes; board = board_in bytes }

-- "Codes 1, 14 and 15 are refused with the lowest such square": "19 CODE, 12, 13"
unfoldable pub record_says : List ℕ → Answer Line
record_says bytes =
    or_named (is_code (board_in bytes)) (λ s. R.Code s)
    (or_refuse (ltb (side_in bytes) 2) R.Side
    (or_refuse (ltb (half_in bytes) 3) R.Result
    (given (position_in bytes))))

-- a piece of a store: LENGTH where it is no 34 bytes, "a short last piece as a refused row, 18"
unfoldable pub piece_says : List ℕ → Answer Line
piece_says piece = or_refuse (eqb (length piece) 34) R.Length (record_says piece)

-- ---- the records of a run
-- "A record is read by its number, from 0, in a lent run."
abbrev pub record_at : List ℕ → ℕ → List ℕ
record_at run number = take 34 (drop (34 * number) run)

-- "18 LENGTH if the run is no multiple of 34, 32 ABSENT if it lacks the record", and then what the record says
unfoldable pub stored_says : List ℕ → ℕ → Answer Line
stored_says run number =
    or_refuse (eqb (length run % 34) 0) R.Length
    (or_refuse (ltb number (length run / 34)) R.Absent
    (piece_says (record_at run number)))
