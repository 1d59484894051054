-- The rows of a question where its line ends: of the line its first bytes are at hand, in a buffer (document 02, W-207). Definitions only.
use Rattle.std.specs.Prelude.{cond, List, [], ◌∷◌, ◌++◌, ℕ, ltb, length, take}
use Rattle.refusal.specs.Answer.{Answer, given, refused, refusal_of}
use Rattle.refusal.specs.declared.Refusal.TheVariants as R
use Rattle.exchange_start.specs.declared.Mode.{Mode}
use Rattle.exchange_value.specs.Settled.{settled}
use Rattle.exchange.specs.Exchange.{Capture, values_taken}
use Rattle.exchange_told.specs.Told.{the_stop}
use Rattle.ledger_row.specs.Row.{refused_row}
use Rattle.ledger_row.specs.Promises.{PutsRow}
use Rattle.ledger_row.specs.declared.Row.{Row}
use Rattle.captures_question.specs.Question.{question_of}
use Rattle.captures_row.specs.Rows.{capture_row, stop_row}

-- "the captures of an exchange in order", those after the stopping point too
unfoldable pub capture_rows : ℕ → List Capture → List ℕ
capture_rows number [] = []
capture_rows number (c ∷ cs) = capture_row number c.from c.kind c.taken ++ capture_rows number cs

-- "then the stopping point", with the exchange value: S(0) of the values taken
abbrev pub told_rows : ℕ → List Capture → List ℕ
told_rows number cs = capture_rows number cs ++ stop_row number (the_stop cs) (settled (values_taken cs))

-- or the refusal's number, as in the ledger
abbrev pub answer_rows : ℕ → Answer (List Capture) → List ℕ
answer_rows number (given cs) = told_rows number cs
answer_rows number (refused n beside) = refused_row number n

-- the answer to a question of so many bytes: LONG where the buffer does not hold it, or what the buffer holds
abbrev pub held_answer : Mode → List ℕ → ℕ → Answer (List Capture)
held_answer mode line size = cond (ltb (length line) size) (refusal_of R.Long) (question_of mode (take size line))

-- what the function promises: the rows of the answer are put, and it is said whether there was one
abbrev pub AnswersHeld : Mode → List ℕ → List ℕ → ℕ → ℕ → List ℕ → ℕ → Row → Type 0
AnswersHeld mode old new at number line size r = PutsRow old new at (held_answer mode line size) (answer_rows number (held_answer mode line size)) r
