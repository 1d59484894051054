-- The end of the input that was sifted: an unfinished line ends there, and the ledger's last row follows. Definitions only.
use Rattle.std.specs.Prelude.{◌≡◌, Bool, ◌&&◌, List, [], ◌++◌, ℕ, ◌+◌, ◌*◌, ◌^◌, ◌≤◌, ◌<◌, leb, length, Result, Ok}
use Rattle.text_out.specs.Text.{written_of, Adds}
use Rattle.line_parse.specs.Line.{Line}
use Rattle.line_cut.specs.Cut.{end_by}
use Rattle.ledger_totals.specs.Totals.{last_row}
use Rattle.ledger_feed.specs.Promises.{Came, turned, many, full, came, fit, came_as}
use Rattle.ledger_feed.specs.declared.SoFar.{SoFar}
use Rattle.ledger_finish.specs.Promises.{unfinished, last_lines}
use Rattle.sift_form.specs.Forms.{room_of, made_of}
use Rattle.sift_form.specs.declared.Form.{Form}
use Rattle.sift_feed.specs.Sifting.{Sifting, close_sift, sifting_at, open_at}
use Rattle.ledger_feed.specs.declared.Unwritten.{Unwritten}

-- the last line, CR and all
abbrev pub sift_end : (Line → List ℕ) → SoFar → List ℕ → Sifting
sift_end make state line = end_by (close_sift make) (record { left = open_at state line; kept = sifting_at state })

-- the last row after the rows: lines, loaded, refused
abbrev pub all_rows : Sifting → List ℕ
all_rows s = s.rows ++ last_row (s.loaded + s.refused) s.loaded s.refused

-- room for what a last line makes; 116 bytes for its row and the last one
abbrev pub last_room : SoFar → Form → List ℕ → List ℕ → Bool
last_room state form made rows = leb (room_of form * unfinished state.held) (length made) && leb 116 (length rows)

abbrev pub sifted_last : SoFar → Form → List ℕ → List ℕ → List ℕ → Came Sifting
sifted_last state form line made rows = fit line (last_lines state) (last_room state form made rows) (sift_end (made_of form) state line)

abbrev pub last_lengths : Came Sifting → Came (ℕ × ℕ)
last_lengths (came s) = came (length s.made, length (all_rows s))
last_lengths (turned n l) = turned n l
last_lengths many = many
last_lengths full = full

abbrev pub last_made : Came Sifting → List ℕ
last_made (came s) = s.made
last_made (turned n l) = []
last_made many = []
last_made full = []

abbrev pub last_rows : Came Sifting → List ℕ
last_rows (came s) = all_rows s
last_rows (turned n l) = []
last_rows many = []
last_rows full = []

abbrev pub last_bytes : Came (ℕ × ℕ) → ℕ × ℕ
last_bytes (came p) = p
last_bytes (turned n l) = (0, 0)
last_bytes many = (0, 0)
last_bytes full = (0, 0)

-- what the function promises, for all inputs
pub record FinishesSifted (state : SoFar) (form : Form) (line made rows : List ℕ) (r : Result (ℕ × ℕ) Unwritten) (made' rows' : List ℕ) : Type 0 where
  pub answer : came_as r ≡ last_lengths (sifted_last state form line made rows)
  pub making : made' ≡ written_of made 0 (last_made (sifted_last state form line made rows))
  pub rowing : rows' ≡ written_of rows 0 (last_rows (sifted_last state form line made rows))
  -- follow from the others, for who takes the bytes out
  pub made_within : (last_bytes (came_as r)).0 ≤ length made
  pub rows_within : (last_bytes (came_as r)).1 ≤ length rows

-- ---- a private function: there is room, and what was written
pub record ReadyToEnd (state : SoFar) (form : Form) (made rows : List ℕ) : Type 0 where
  pub counts : last_lines state < 2 ^ 64
  pub making : room_of form * unfinished state.held ≤ length made
  pub rowing : 116 ≤ length rows

-- what an answer with rows has written
pub record WritesLast (s : Sifting) (made rows : List ℕ) (w v : ℕ) (made' rows' : List ℕ) : Type 0 where
  pub making : Adds made 0 s.made made' w
  pub rowing : Adds rows 0 (all_rows s) rows' v

pub record EndsSifted (state : SoFar) (form : Form) (line made rows : List ℕ) (r : Result (ℕ × ℕ) Unwritten) (made' rows' : List ℕ) : Type 0 where
  pub w : ℕ
  pub v : ℕ
  pub is : r ≡ Ok (w, v)
  pub written : WritesLast (sift_end (made_of form) state line) made rows w v made' rows'
