-- What one line of a collection says (document 01, "A collection's line", and document 02, W-213; the fields as the PGN standard's FEN has them).
-- Definitions only.
use Rattle.std.specs.Prelude.{Bool, List, [], ◌∷◌, ℕ, leb, ltb, length}
use Rattle.refusal.specs.Answer.{Answer, given, or_refuse}
use Rattle.refusal.specs.declared.Refusal.TheVariants as R
use Rattle.position.specs.declared.State.{State}
use Rattle.text_in.specs.Text.{text, space, semicolon, is_text, every, holds, before, after, trim, place_in}
use Rattle.line_cut.specs.Cut.{longest}
use Rattle.line_ranks.specs.Ranks.{are_eight_ranks, board_of}
use Rattle.line_tail.specs.Words.{word_of}
use Rattle.line_tail.specs.Tail.{or_tail, tail_state}

-- ---- the parts of a line
-- a field: what stands before the next `;` or the end, "trimmed of spaces, tabs and CR"
abbrev pub first_field : List ℕ → List ℕ
first_field s = trim (before semicolon s)

-- "The text before the first `;` is the position field"
abbrev pub position_field : List ℕ → List ℕ
position_field line = first_field line

-- "up to the next `;` or the end the result"
abbrev pub result_field : List ℕ → List ℕ
result_field line = first_field (after semicolon line)

-- "The ranks end at the first space or the field's end."
abbrev pub ranks_of : List ℕ → List ℕ
ranks_of field = before space field

-- "then one space or more; then `w` or `b`; then the end or a space": the word after the spaces
abbrev pub side_word : List ℕ → List ℕ
side_word field = word_of (after space field)

-- ---- what they may be
-- `w` is White's side, 0, and `b` Black's, 1
abbrev pub sides : List (List ℕ)
sides = text "w" ∷ text "b" ∷ []

-- "Results `1-0`, `1/2-1/2`, `0-1` are 2, 1, 0 half points."
abbrev pub results : List (List ℕ)
results = text "0-1" ∷ text "1/2-1/2" ∷ text "1-0" ∷ []

-- a text that is one of these
abbrev pub is_one_of : List (List ℕ) → List ℕ → Bool
is_one_of texts s = ltb (place_in texts s) (length texts)

-- ---- what the line says
pub record Line : Type 0 where
  pub state : State
  -- half points
  pub half : ℕ
  -- the 64 board bytes
  pub board : List ℕ

-- the line of a board and a state: RESULT "unknown result"
abbrev pub with_result : List ℕ → List ℕ → State → Answer Line
with_result board result state = or_refuse (is_one_of results result) R.Result (given (record { state = state; half = place_in results result; board = board }))

-- what a position field and a result say: PLACE "bad ranks", SIDE "bad side", then RIGHTS, PASSANT, COUNTER, "after SIDE in a line", then RESULT
unfoldable pub fields_say : List ℕ → List ℕ → Answer Line
fields_say field result =
    let board : List ℕ = board_of (ranks_of field) in
    let side : ℕ = place_in sides (side_word field) in
    or_refuse (are_eight_ranks (ranks_of field)) R.Place
    (or_refuse (is_one_of sides (side_word field)) R.Side
    (or_tail board side (after space field) (with_result board result (tail_state side (after space field)))))

-- LONG "line over 256 bytes", BYTE "a byte other than 32..126, tab and CR", FIELD "no `;`", then its fields: "First in order wins."
unfoldable pub line_of : List ℕ → Answer Line
line_of line =
    or_refuse (leb (length line) longest) R.Long
    (or_refuse (every is_text line) R.Byte
    (or_refuse (holds semicolon line) R.Field
    (fields_say (position_field line) (result_field line))))
