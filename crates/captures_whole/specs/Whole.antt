-- What is claimed of the tool, under which room and length. Definitions only.
use Rattle.std.specs.Prelude.{◌≡◌, List, [], ◌∷◌, ℕ, ◌+◌, ◌*◌, ◌^◌, ◌≤◌, ◌<◌, length}
use Rattle.line_cut.specs.Lines.{ends, lines_of}
use Rattle.exchange_start.specs.declared.Mode.{Mode}
use Rattle.exchange_value.specs.Settled.{settled}
use Rattle.exchange_value.specs.Stop.{carried_out, alternating}
use Rattle.exchange.specs.Exchange.{Capture, values_taken}
use Rattle.exchange_told.specs.Told.{the_stop}
use Rattle.ledger_feed.specs.declared.SoFar.{SoFar}
use Rattle.ledger_whole.specs.Calls.{Call, Last, next, all_written, input, fresh}
use Rattle.captures_feed.specs.Promises.{TellsQuestions, TellsLast}
use Rattle.captures_whole.specs.Questions.{told_in, untold_in, answers_of}

-- each call does what `feed` promises, from the state and the line buffer that the call before it left; then `finish`
unfoldable pub TellsMade : Mode → SoFar → List ℕ → List Call → Last → Type 0
TellsMade mode state line [] last = TellsLast mode state line last.out last.finished last.out'
TellsMade mode state line (c ∷ cs) last = TellsQuestions mode state line c.chunk c.out c.fed c.line' c.out'
    × TellsMade mode (next c.fed state) c.line' cs last

-- 2,048 bytes of room for each line that ends in a chunk, and 2,132 for the last rows
unfoldable pub RoomyTold : List Call → Last → Type 0
RoomyTold [] last = 2132 ≤ length last.out
RoomyTold (c ∷ cs) last = (2048 * ends c.chunk ≤ length c.out) × RoomyTold cs last

-- THE ROWS: in either mode, for every way the input is cut into chunks, whatever the line buffer held, all that is written are the rows of the whole
-- input; wherever there is
-- room for them and the input has fewer than 2^64 lines
pub record WholeTold (mode : Mode) (line : List ℕ) (calls : List Call) (last : Last) : Type 0 where
  pub rows : length line ≡ 256 → RoomyTold calls last → length (lines_of (input calls)) < 2 ^ 64 → TellsMade mode fresh line calls last
      → all_written calls last ≡ answers_of mode (input calls)

-- every question is counted once, told or refused; and the worth that a row shows is the sum of the values taken before the stopping point, with
-- alternating signs
pub record Told (mode : Mode) (questions : List (List ℕ)) : Type 0 where
  pub counts : told_in mode questions + untold_in mode questions ≡ length questions
  pub worth : (cs : List Capture) → alternating (carried_out (the_stop cs) (values_taken cs)) ≡ settled (values_taken cs)
