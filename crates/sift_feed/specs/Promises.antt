-- What `feed` promises, for all inputs. Definitions only.
use Rattle.std.specs.Prelude.{◌≡◌, Bool, ◌&&◌, List, [], ℕ, ◌+◌, ◌*◌, ◌^◌, ◌≤◌, ◌<◌, leb, length, Result, Ok}
use Rattle.text_out.specs.Text.{written_of}
use Rattle.line_cut.specs.Lines.{ends}
use Rattle.line_cut.specs.Cut.{CutSoFar}
use Rattle.ledger_feed.specs.Promises.{Came, turned, many, full, came, fit, came_as}
use Rattle.ledger_feed.specs.declared.SoFar.{SoFar}
use Rattle.sift_form.specs.Forms.{room_of, made_of}
use Rattle.sift_form.specs.declared.Form.{Form}
use Rattle.sift_feed.specs.Sifting.{Sifting, sift_run, so_far_in}
use Rattle.ledger_feed.specs.declared.Unwritten.{Unwritten}

-- room for each line that ends in the chunk: for what is made of it, and 32 bytes for its row
abbrev pub sift_room : Form → List ℕ → List ℕ → List ℕ → Bool
sift_room form chunk made rows = leb (room_of form * ends chunk) (length made) && leb (32 * ends chunk) (length rows)

-- SHAPE, then the counts, then the room, as the ledger's `feed`
abbrev pub sift_of : SoFar → Form → List ℕ → List ℕ → List ℕ → List ℕ → Came (CutSoFar Sifting)
sift_of state form line chunk made rows =
    fit line (state.loaded + state.refused + ends chunk) (sift_room form chunk made rows) (sift_run (made_of form) state line chunk)

abbrev pub sifted_by_value : Came (CutSoFar Sifting) → Came (SoFar × ℕ × ℕ)
sifted_by_value (came r) = came (so_far_in r, length r.kept.made, length r.kept.rows)
sifted_by_value (turned n l) = turned n l
sifted_by_value many = many
sifted_by_value full = full

-- what stands in lent memory afterwards: as it was, unless lines are taken
abbrev pub line_sifted : Came (CutSoFar Sifting) → List ℕ → List ℕ
line_sifted (came r) old = r.left.line
line_sifted (turned n l) old = old
line_sifted many old = old
line_sifted full old = old

abbrev pub sifting_in : Came (CutSoFar Sifting) → Sifting
sifting_in (came r) = r.kept
sifting_in (turned n l) = record { loaded = 0; refused = 0; made = []; rows = [] }
sifting_in many = record { loaded = 0; refused = 0; made = []; rows = [] }
sifting_in full = record { loaded = 0; refused = 0; made = []; rows = [] }

-- how many bytes of the two buffers an answer speaks of
abbrev pub sifted_bytes : Came (SoFar × ℕ × ℕ) → ℕ × ℕ
sifted_bytes (came p) = (p.1, p.2)
sifted_bytes (turned n l) = (0, 0)
sifted_bytes many = (0, 0)
sifted_bytes full = (0, 0)

pub record Sifts (state : SoFar) (form : Form) (line chunk made rows : List ℕ) (r : Result (SoFar × ℕ × ℕ) Unwritten) (line' made' rows' : List ℕ) : Type 0 where
  pub answer : came_as r ≡ sifted_by_value (sift_of state form line chunk made rows)
  pub kept : line' ≡ line_sifted (sift_of state form line chunk made rows) line
  pub making : made' ≡ written_of made 0 (sifting_in (sift_of state form line chunk made rows)).made
  pub rowing : rows' ≡ written_of rows 0 (sifting_in (sift_of state form line chunk made rows)).rows
  -- follow from the others, for who takes the bytes out
  pub made_within : (sifted_bytes (came_as r)).0 ≤ length made
  pub rows_within : (sifted_bytes (came_as r)).1 ≤ length rows

-- ---- a private function: a chunk whose lines have room, and what was taken
pub record ReadyToSift (state : SoFar) (form : Form) (line chunk made rows : List ℕ) : Type 0 where
  pub size : length line ≡ 256
  pub counts : state.loaded + state.refused + ends chunk < 2 ^ 64
  pub making : room_of form * ends chunk ≤ length made
  pub rowing : 32 * ends chunk ≤ length rows

pub record TakesSifted (state : SoFar) (form : Form) (line chunk made rows : List ℕ) (r : Result (SoFar × ℕ × ℕ) Unwritten) (line' made' rows' : List ℕ) : Type 0 where
  pub answer : r ≡ Ok (
    so_far_in (sift_run (made_of form) state line chunk),
    length (sift_run (made_of form) state line chunk).kept.made,
    length (sift_run (made_of form) state line chunk).kept.rows,
  )
  pub kept : line' ≡ (sift_run (made_of form) state line chunk).left.line
  pub making : made' ≡ written_of made 0 (sift_run (made_of form) state line chunk).kept.made
  pub rowing : rows' ≡ written_of rows 0 (sift_run (made_of form) state line chunk).kept.rows
  pub made_within : length (sift_run (made_of form) state line chunk).kept.made ≤ length made
  pub rows_within : length (sift_run (made_of form) state line chunk).kept.rows ≤ length rows
