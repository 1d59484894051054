-- The rows of a whole input of questions, by its lines (document 02, W-207; docs/CAPTURES.md). Definitions only.
use Rattle.std.specs.Prelude.{cond, List, [], ◌∷◌, ◌++◌, ℕ, ◌+◌, length}
use Rattle.exchange_start.specs.declared.Mode.{Mode}
use Rattle.line_cut.specs.Lines.{lines_of}
use Rattle.ledger_row.specs.Row.{is_loaded}
use Rattle.captures_question.specs.Question.{question_of}
use Rattle.captures_row.specs.Rows.{counts_row}
use Rattle.captures_close.specs.Answered.{answer_rows}

-- each question's rows in a mode, numbered from the number given
unfoldable pub answers_from : Mode → ℕ → List (List ℕ) → List ℕ
answers_from mode number [] = []
answers_from mode number (q ∷ qs) = answer_rows number (question_of mode q) ++ answers_from mode (number + 1) qs

-- how many of them are told, and how many refused
unfoldable pub told_in : Mode → List (List ℕ) → ℕ
told_in mode [] = 0
told_in mode (q ∷ qs) = cond (is_loaded (question_of mode q)) 1 0 + told_in mode qs

unfoldable pub untold_in : Mode → List (List ℕ) → ℕ
untold_in mode [] = 0
untold_in mode (q ∷ qs) = cond (is_loaded (question_of mode q)) 0 1 + untold_in mode qs

-- the last row counts the same questions
abbrev pub question_counts : Mode → List (List ℕ) → List ℕ
question_counts mode questions = counts_row (length questions) (told_in mode questions) (untold_in mode questions)

-- ALL ROWS: those of each question, in the questions' order, and the counts
unfoldable pub answers_of : Mode → List ℕ → List ℕ
answers_of mode input = answers_from mode 1 (lines_of input) ++ question_counts mode (lines_of input)
