-- What the writer answers, and what stands in the buffer afterwards (W-202). Definitions only.
use Rattle.std.specs.Prelude.{Bool, true, List, ◌++◌, ℕ, leb, length, drop, Option, None, Some}
use Rattle.refusal.specs.Answer.{Answer, given, refused, or_refuse}
use Rattle.refusal.specs.declared.Refusal.TheVariants as R
use Rattle.position.specs.Checked.{checked}
use Rattle.position.specs.declared.State.{State}
use Rattle.line_text.specs.Lines.{position_text, line_text}

-- "side and, on request, `;` and a result"
abbrev pub wanted_text : List ℕ → State → Option ℕ → List ℕ
wanted_text board state None = position_text board state
wanted_text board state (Some half) = line_text board state half

-- "RESULT for requested half points above 2"
abbrev pub is_result : Option ℕ → Bool
is_result None = true
is_result (Some half) = leb half 2

-- "17 ROOM exactly if the text is longer than the buffer", else it "says how many bytes it used"
abbrev pub or_room : List ℕ → List ℕ → Answer ℕ
or_room text old = or_refuse (leb (length text) (length old)) R.Room (given (length text))

-- RESULT, then ROOM
abbrev pub text_written_of : List ℕ → State → Option ℕ → List ℕ → Answer ℕ
text_written_of board state wanted old = or_refuse (is_result wanted) R.Result (or_room (wanted_text board state wanted) old)

-- "Refusals: SHAPE, the W-201 numbers, RESULT .., then 17 ROOM"; W-213: "29 RIGHTS, 30 PASSANT, 31 COUNTER, .. after the W-201 numbers"
abbrev pub write_of : List ℕ → List ℕ → State → Option ℕ → List ℕ → Answer ℕ
write_of bitboards board state wanted old = checked bitboards board state (text_written_of board state wanted old)

-- "It writes at the front of a lent buffer, .. and doesn't touch those after them"; "Every refusal .. changes no lent byte"
abbrev pub buffer_after : Answer ℕ → List ℕ → List ℕ → List ℕ
buffer_after (given n) text old = text ++ drop n old
buffer_after (refused n v) text old = old
