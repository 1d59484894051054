-- The rows that answer a question about an exchange (document 02, W-207): "the captures of an exchange in order, square, kind, value taken, then the
-- stopping point". Definitions only.
use Rattle.std.specs.Prelude.{List, [], ◌∷◌, ◌++◌, ℕ, ◌+◌, ◌/◌, ◌%◌, ℤ, get_or}
use Rattle.text_in.specs.Text.{text}
use Rattle.text_out.specs.Text.{decimal_of, signed_of}
use Rattle.ledger_row.specs.Row.{spaced}
use Rattle.exchange_value.specs.Stop.{Stop, played_out, before}

-- a square by its file's letter and its rank's digit, and the space that parts fields
abbrev pub square_field : ℕ → List ℕ
square_field s = (97 + s % 8) ∷ (49 + s / 8) ∷ 32 ∷ []

-- a kind as a word, and the space after it
abbrev pub kind_field : ℕ → List ℕ
kind_field kind = get_or (text "pawn " ∷ text "knight " ∷ text "bishop " ∷ text "rook " ∷ text "queen " ∷ []) kind (text "king ")

-- "square, kind, value taken", after the question's line number
unfoldable pub capture_row : ℕ → ℕ → ℕ → ℕ → List ℕ
capture_row number from kind taken = spaced number ++ (square_field from ++ (kind_field kind ++ (decimal_of taken ++ text "\n")))

-- "then the stopping point": the number of the capture before which it stops, the first being 0; "or 'played out' if there is none"
abbrev pub stop_field : Stop → List ℕ
stop_field played_out = text "played out"
stop_field (before i) = text "stop " ++ decimal_of i

-- and the exchange value
abbrev pub worth_field : ℤ → List ℕ
worth_field worth = text " worth " ++ signed_of worth

unfoldable pub stop_row : ℕ → Stop → ℤ → List ℕ
stop_row number stop worth = spaced number ++ (stop_field stop ++ (worth_field worth ++ text "\n"))

-- the last row: how many questions there were, how many were told, how many refused
unfoldable pub counts_row : ℕ → ℕ → ℕ → List ℕ
counts_row lines told others =
    (text "lines " ++ decimal_of lines) ++ ((text " told " ++ decimal_of told) ++ ((text " refused " ++ decimal_of others) ++ text "\n"))
