-- The rows of a ledger (document 01, "The ledger program"). Definitions only.
use Rattle.std.specs.Prelude.{Bool, true, false, List, [], ◌++◌, ℕ}
use Rattle.refusal.specs.Answer.{Answer, given, refused}
use Rattle.position_boards.specs.Boards.{bitboards_of}
use Rattle.position.specs.declared.State.{State}
use Rattle.text_in.specs.Text.{text}
use Rattle.line_parse.specs.Line.{Line}
use Rattle.score_verdict.specs.Verdict.{lost, won, drawn, none}
use Rattle.score_verdict.specs.Verdict.{Verdict}
use Rattle.score.specs.Score.{Outcome, verdict, score, score_of}
use Rattle.text_out.specs.Text.{decimal_of, signed_of}

-- "`won`, `lost`, `drawn`"
abbrev pub verdict_word : Verdict → List ℕ
verdict_word lost = text "lost"
verdict_word won = text "won"
verdict_word drawn = text "drawn"
verdict_word none = []

-- "the score for the side to move or `won`, `lost`, `drawn`, `over` (SCORE)"
abbrev pub shown_of : Answer Outcome → List ℕ
shown_of (given (verdict v)) = verdict_word v
shown_of (given (score z)) = signed_of z
shown_of (refused number beside) = text "over"

-- "One space parts fields"
abbrev pub spaced : ℕ → List ℕ
spaced n = decimal_of n ++ text " "

-- "the line number, `refused` and the refusal's number"; "rows end in LF"
unfoldable pub refused_row : ℕ → ℕ → List ℕ
refused_row number refusal = spaced number ++ (text "refused " ++ (decimal_of refusal ++ text "\n"))

-- "line number, half points, then the score .."
unfoldable pub loaded_row : ℕ → ℕ → Answer Outcome → List ℕ
loaded_row number half scored = spaced number ++ (spaced half ++ (shown_of scored ++ text "\n"))

-- the row of what a reader said: the state and the half points, with the position's bitboards beside them, or a refusal
abbrev pub said_row : ℕ → List ℕ → Answer (State × ℕ) → List ℕ
said_row number bitboards (given said) = loaded_row number said.1 (score_of bitboards said.0)
said_row number bitboards (refused n beside) = refused_row number n

-- the row of a line, by what the line says
abbrev pub row_of : ℕ → Answer Line → List ℕ
row_of number (given l) = said_row number (bitboards_of l.board) (given (l.state, l.half))
row_of number (refused n beside) = said_row number [] (refused n beside)

-- what gets a row with half points, `over` too; the others are refused
abbrev pub is_loaded : {A : Type 0} → Answer A → Bool
is_loaded (given a) = true
is_loaded (refused n beside) = false
