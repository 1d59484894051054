-- What each function promises, for all inputs. Definitions only.
use Rattle.std.specs.Prelude.{◌≡◌, Bool, cond, List, [], ℕ, ◌+◌, ◌*◌, ◌^◌, ◌≤◌, ◌<◌, leb, length, take, drop, Result, Ok}
use Rattle.text_out.specs.Text.{written_of, room_for}
use Rattle.exchange_start.specs.declared.Mode.{Mode}
use Rattle.line_cut.specs.Lines.{ends}
use Rattle.ledger_feed.specs.Machine.{Machine, Kept, at}
use Rattle.ledger_feed.specs.Promises.{Came, fit, state_of, came_by_value, line_after, text_after, wrote, came_as}
use Rattle.ledger_feed.specs.declared.SoFar.{SoFar}
use Rattle.ledger_finish.specs.Promises.{last_lines, length_of, last_text, last_wrote}
use Rattle.captures_feed.specs.Machine.{close_told, run_told, finished_told}
use Rattle.captures_feed.specs.declared.Written.{Written}
use Rattle.ledger_feed.specs.declared.Unwritten.{Unwritten}

-- ---- feed: 2,048 bytes of room for each line that ends in the chunk; SHAPE, the counts and the room as the ledger's
abbrev pub tell_of : Mode → SoFar → List ℕ → List ℕ → List ℕ → Came Machine
tell_of mode state line chunk out =
    fit line (state.loaded + state.refused + ends chunk) (leb (2048 * ends chunk) (length out)) (run_told mode (at state line []) chunk)

pub record TellsQuestions (mode : Mode) (state : SoFar) (line chunk out : List ℕ) (r : Result (SoFar × ℕ) Unwritten) (line' out' : List ℕ) : Type 0 where
  pub answer : came_as r ≡ came_by_value (tell_of mode state line chunk out)
  pub kept : line' ≡ line_after (tell_of mode state line chunk out) line
  pub rows : out' ≡ written_of out 0 (text_after (tell_of mode state line chunk out))
  -- follows from the others, for who takes the rows out
  pub within : wrote (came_as r) ≤ length out

-- ---- finish: room for what is written
abbrev pub last_of : Mode → SoFar → List ℕ → List ℕ → Came (List ℕ)
last_of mode state line out =
    let text : List ℕ = finished_told mode (at state line []) in
    fit line (last_lines state) (room_for out 0 text) text

pub record TellsLast (mode : Mode) (state : SoFar) (line out : List ℕ) (r : Result ℕ Unwritten) (out' : List ℕ) : Type 0 where
  pub answer : came_as r ≡ length_of (last_of mode state line out)
  pub rows : out' ≡ written_of out 0 (last_text (last_of mode state line out))
  pub within : last_wrote (came_as r) ≤ length out

-- ---- private functions
abbrev pub kept_in : Written → List ℕ → Kept
kept_in w out = record { loaded = w.loaded; refused = w.refused; text = take w.wrote out }

-- what a line that ended needs: a count, and room for its rows
pub record ReadyLine (w : Written) (ended : Bool) (out : List ℕ) : Type 0 where
  pub counts : w.loaded + w.refused + cond ended 1 0 < 2 ^ 64
  pub room : w.wrote + 2048 * cond ended 1 0 ≤ length out

-- where a line ended, its rows are added to what was written
pub record CountsQuestion (mode : Mode) (w : Written) (line : List ℕ) (ended : Bool) (size : ℕ) (out : List ℕ) (r : Written) (out' : List ℕ) : Type 0 where
  pub kept : kept_in r out' ≡ cond ended (close_told mode (kept_in w out) line size) (kept_in w out)
  pub sum : r.loaded + r.refused ≡ w.loaded + w.refused + cond ended 1 0
  pub from : w.wrote ≤ r.wrote
  pub to : r.wrote ≤ w.wrote + 2048 * cond ended 1 0
  pub long : length out' ≡ length out
  pub rest : (k : ℕ) → r.wrote ≤ k → drop k out' ≡ drop k out

pub record ReadyChunk (state : SoFar) (line chunk out : List ℕ) : Type 0 where
  pub size : length line ≡ 256
  pub counts : state.loaded + state.refused + ends chunk < 2 ^ 64
  pub room : 2048 * ends chunk ≤ length out

pub record TakesChunk (mode : Mode) (state : SoFar) (line chunk out : List ℕ) (r : Result (SoFar × ℕ) Unwritten) (line' out' : List ℕ) : Type 0 where
  pub answer : r ≡ Ok (state_of (run_told mode (at state line []) chunk), length (run_told mode (at state line []) chunk).text)
  pub kept : line' ≡ (run_told mode (at state line []) chunk).line
  pub rows : out' ≡ written_of out 0 (run_told mode (at state line []) chunk).text
  pub within : length (run_told mode (at state line []) chunk).text ≤ length out
