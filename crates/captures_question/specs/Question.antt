-- A question about an exchange (document 02, W-207): a line of a collection as it stands, then `;` and a move of two squares, then, if wanted, `;`
-- and an order of
-- the kinds as six letters: `6k1/8/8/4p3/8/8/8/4R1K1 w;1-0;e1e5;pbnrqk`. Definitions only.
use Rattle.std.specs.Prelude.{cond, List, [], ◌∷◌, ℕ, ◌+◌, eqb, length, get_or}
use Rattle.refusal.specs.Answer.{Answer, given, refused}
use Rattle.chess.specs.Named.{square_of}
use Rattle.position_boards.specs.Boards.{bitboards_of}
use Rattle.text_in.specs.Text.{text, semicolon, before, after, trim}
use Rattle.line_parse.specs.Line.{Line, line_of}
use Rattle.exchange_order.specs.Orders.{order}
use Rattle.exchange_start.specs.declared.Mode.{Mode}
use Rattle.exchange.specs.Exchange.{Capture}
use Rattle.exchange_told.specs.Told.{told_of}

-- ---- the two fields after the result, each trimmed as 01's are
abbrev pub after_result : List ℕ → List ℕ
after_result question = after semicolon (after semicolon question)

abbrev pub move_field : List ℕ → List ℕ
move_field question = trim (before semicolon (after_result question))

abbrev pub order_field : List ℕ → List ℕ
order_field question = trim (before semicolon (after semicolon (after_result question)))

-- ---- what they say
-- two squares side by side; else none, and SQUARE refuses it
abbrev pub nth_square : List ℕ → ℕ → ℕ
nth_square s at = cond (eqb (length s) 4) (square_of (get_or s at 0) (get_or s (at + 1) 0)) 64

-- the kinds' letters in document 01's order; 6, which ORDER refuses, for any other
abbrev pub kind_of_letter : ℕ → ℕ
kind_of_letter letter = length (before letter (text "pnbrqk"))

abbrev pub letter_at : List ℕ → ℕ → ℕ
letter_at s i = kind_of_letter (get_or s i 0)

-- six letters; any other number of them is no order
abbrev pub order_of : List ℕ → List ℕ
order_of s =
    cond (eqb (length s) 6) (letter_at s 0 ∷ letter_at s 1 ∷ letter_at s 2 ∷ letter_at s 3 ∷ letter_at s 4 ∷ letter_at s 5 ∷ [])
    (6 ∷ 6 ∷ 6 ∷ 6 ∷ 6 ∷ 6 ∷ [])

-- "if wanted": without one it is document 01's
abbrev pub kinds_in : List ℕ → List ℕ
kinds_in s = cond (eqb (length s) 0) order (order_of s)

-- ---- the answer, in a mode: the line's refusals, then those of the exchange
abbrev pub answer_to : Mode → List ℕ → ℕ → ℕ → Answer Line → Answer (List Capture)
answer_to mode kinds from to (given l) = told_of mode kinds (bitboards_of l.board) l.board l.state from to
answer_to mode kinds from to (refused number beside) = refused number beside

abbrev pub question_of : Mode → List ℕ → Answer (List Capture)
question_of mode question =
    answer_to mode (kinds_in (order_field question)) (nth_square (move_field question) 0) (nth_square (move_field question) 2) (line_of question)
