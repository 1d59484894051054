-- What a line says where it ends: of the line its first bytes are at hand, in a buffer. Definitions only.
use Rattle.std.specs.Prelude.{cond, List, ℕ, ltb, length, take}
use Rattle.refusal.specs.Answer.{Answer, refusal_of}
use Rattle.refusal.specs.declared.Refusal.TheVariants as R
use Rattle.position_boards.specs.Boards.{bitboards_of}
use Rattle.line_ranks.specs.Promises.{empty_board}
use Rattle.line_parse.specs.Line.{Line, line_of}
use Rattle.line.specs.Promises.{Reads}
use Rattle.line.specs.declared.inner.Loaded.{Loaded}

-- what the line of so many bytes says: LONG where the buffer does not hold it, or what the buffer holds
abbrev pub said_of : List ℕ → ℕ → Answer Line
said_of line size = cond (ltb (length line) size) (refusal_of R.Long) (line_of (take size line))

-- what the function promises: the line read over a bare board, which a refusal leaves bare
abbrev pub ReadsHeld : List ℕ → ℕ → Loaded → Type 0
ReadsHeld line size r = Reads (said_of line size) (bitboards_of empty_board) empty_board r.answer r.bitboards r.board

-- ---- a private function
abbrev pub ReadsLong : Loaded → Type 0
ReadsLong r = Reads (refusal_of R.Long) (bitboards_of empty_board) empty_board r.answer r.bitboards r.board
