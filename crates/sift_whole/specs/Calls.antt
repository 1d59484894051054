-- A collection sifted by calls: a chunk and two buffers for each call of `feed`, and two buffers for the call of `finish`; and what is claimed.
-- Definitions only.
use Rattle.std.specs.Prelude.{◌≡◌, List, [], ◌∷◌, ◌++◌, ℕ, ◌*◌, ◌^◌, ◌≤◌, ◌<◌, length, take, Result, Ok, Err}
use Rattle.line_cut.specs.Lines.{ends, lines_of}
use Rattle.line_profile.specs.declared.Profile.TheVariants as P
use Rattle.ledger_feed.specs.declared.SoFar.{SoFar}
use Rattle.ledger_whole.specs.Ledger.{loaded_in}
use Rattle.ledger_whole.specs.Calls.{fresh}
use Rattle.sift_form.specs.Forms.{room_of, made_of}
use Rattle.sift_form.specs.declared.Form.{Form}
use Rattle.sift_form.specs.declared.Form.TheVariants as M
use Rattle.sift_feed.specs.Promises.{Sifts}
use Rattle.sift_finish.specs.Last.{FinishesSifted}
use Rattle.sift_whole.specs.Sifted.{made_of_all, rows_of_all}
use Rattle.ledger_feed.specs.declared.Unwritten.TheVariants as U
use Rattle.ledger_feed.specs.declared.Unwritten.{Unwritten}

-- a call of `feed`: what it was lent, what it answered, and the memory afterwards
pub record SiftCall : Type 0 where
  pub chunk : List ℕ
  pub made : List ℕ
  pub rows : List ℕ
  pub sifted : Result (SoFar × ℕ × ℕ) Unwritten
  pub line' : List ℕ
  pub made' : List ℕ
  pub rows' : List ℕ

-- the call of `finish`
pub record SiftLast : Type 0 where
  pub made : List ℕ
  pub rows : List ℕ
  pub finished : Result (ℕ × ℕ) Unwritten
  pub made' : List ℕ
  pub rows' : List ℕ

-- the state that a call hands on, and the bytes that it wrote
abbrev pub next_so_far : Result (SoFar × ℕ × ℕ) Unwritten → SoFar → SoFar
next_so_far (Ok (state, made, rows)) before = state
next_so_far (Err U.Full) before = before
next_so_far (Err U.Many) before = before
next_so_far (Err (U.Refused r)) before = before

abbrev pub made_is : Result (SoFar × ℕ × ℕ) Unwritten → List ℕ → List ℕ
made_is (Ok (state, made, rows)) made' = take made made'
made_is (Err U.Full) made' = []
made_is (Err U.Many) made' = []
made_is (Err (U.Refused r)) made' = []

abbrev pub rows_are : Result (SoFar × ℕ × ℕ) Unwritten → List ℕ → List ℕ
rows_are (Ok (state, made, rows)) rows' = take rows rows'
rows_are (Err U.Full) rows' = []
rows_are (Err U.Many) rows' = []
rows_are (Err (U.Refused r)) rows' = []

abbrev pub last_made_is : Result (ℕ × ℕ) Unwritten → List ℕ → List ℕ
last_made_is (Ok (made, rows)) made' = take made made'
last_made_is (Err U.Full) made' = []
last_made_is (Err U.Many) made' = []
last_made_is (Err (U.Refused r)) made' = []

abbrev pub last_rows_are : Result (ℕ × ℕ) Unwritten → List ℕ → List ℕ
last_rows_are (Ok (made, rows)) rows' = take rows rows'
last_rows_are (Err U.Full) rows' = []
last_rows_are (Err U.Many) rows' = []
last_rows_are (Err (U.Refused r)) rows' = []

-- each call does what `feed` promises, from the state and the line buffer that the call before it left; then `finish`
unfoldable pub SiftedBy : Form → SoFar → List ℕ → List SiftCall → SiftLast → Type 0
SiftedBy form state line [] last = FinishesSifted state form line last.made last.rows last.finished last.made' last.rows'
SiftedBy form state line (c ∷ cs) last =
    Sifts state form line c.chunk c.made c.rows c.sifted c.line' c.made' c.rows'
    × SiftedBy form (next_so_far c.sifted state) c.line' cs last

-- all that is made, and all rows, call after call
unfoldable pub all_made : List SiftCall → SiftLast → List ℕ
all_made [] last = last_made_is last.finished last.made'
all_made (c ∷ cs) last = made_is c.sifted c.made' ++ all_made cs last

unfoldable pub all_sift_rows : List SiftCall → SiftLast → List ℕ
all_sift_rows [] last = last_rows_are last.finished last.rows'
all_sift_rows (c ∷ cs) last = rows_are c.sifted c.rows' ++ all_sift_rows cs last

-- the whole input, which the chunks are cut from
unfoldable pub sift_input : List SiftCall → List ℕ
sift_input [] = []
sift_input (c ∷ cs) = c.chunk ++ sift_input cs

-- room for each line that ends in a chunk, and at the end for one more line and the last rows
unfoldable pub RoomToSift : Form → List SiftCall → SiftLast → Type 0
RoomToSift form [] last = (room_of form ≤ length last.made) × (116 ≤ length last.rows)
RoomToSift form (c ∷ cs) last = (room_of form * ends c.chunk ≤ length c.made) × (32 * ends c.chunk ≤ length c.rows) × RoomToSift form cs last

-- THE CLAIM: for every way the input is cut into chunks, whatever the line buffer held, what is made is what the loaded lines of the whole input make,
-- in order, and the rows are the refused ones of its ledger and the ledger's last row; wherever there is room and the input has fewer than 2^64 lines
pub record SiftedWhole (form : Form) (line : List ℕ) (calls : List SiftCall) (last : SiftLast) : Type 0 where
  pub making : length line ≡ 256 → RoomToSift form calls last → length (lines_of (sift_input calls)) < 2 ^ 64 → SiftedBy form fresh line calls last
      → all_made calls last ≡ made_of_all (made_of form) (sift_input calls)
  pub rowing : length line ≡ 256 → RoomToSift form calls last → length (lines_of (sift_input calls)) < 2 ^ 64 → SiftedBy form fresh line calls last
      → all_sift_rows calls last ≡ rows_of_all (sift_input calls)

-- of each loaded line there is one whole sample, so the samples are as many as the ledger's count says
abbrev pub SamplesCount : List ℕ → Type 0
SamplesCount input = length (made_of_all (made_of M.Sample) input) ≡ 300 * loaded_in P.Any (lines_of input)
