-- What each function promises, for all inputs. Definitions only.
use Rattle.std.specs.Prelude.{◌≡◌, List, ℕ, Err}
use Rattle.refusal.specs.Answer.{Answer, given, refused, answered}
use Rattle.refusal.specs.declared.Refusal.{Refusal}
use Rattle.position.specs.declared.State.{State}
use Rattle.line_ranks.specs.Promises.{empty_board}
use Rattle.line_parse.specs.Line.{Line, line_of}
use Rattle.line_parse.specs.declared.Parsed.{Parsed}

-- what comes back by value
abbrev pub by_value : Answer Line → Answer (State × ℕ)
by_value (given l) = given (l.state, l.half)
by_value (refused n v) = refused n v

-- what stands in lent memory afterwards: "Every refusal .. changes no lent byte"
abbrev pub board_after : Answer Line → List ℕ → List ℕ
board_after (given l) old = l.board
board_after (refused n v) old = old

-- the answer, and the board, which is bare where there is a refusal
pub record Says (a : Answer Line) (r : Parsed) : Type 0 where
  pub answer : answered r.answer ≡ by_value a
  pub board : r.board ≡ board_after a empty_board

abbrev pub Parses : List ℕ → Parsed → Type 0
Parses line r = Says (line_of line) r

-- ---- private functions
pub record Turned (refusal : Refusal) (r : Parsed) : Type 0 where
  pub answer : r.answer ≡ Err refusal
  pub board : r.board ≡ empty_board
