-- What may be made of a loaded line: a form, the room that it takes, and its bytes. A new form has a line in the first two definitions here, an arm
-- in `room` and in `make`, and a law in proofs/Rooms. Definitions only.
use Rattle.std.specs.Prelude.{List, ℕ}
use Rattle.position_boards.specs.Boards.{bitboards_of}
use Rattle.position.specs.declared.State.{State}
use Rattle.line_parse.specs.Line.{Line}
use Rattle.line_text.specs.Lines.{ended_line}
use Rattle.fit_sample.specs.Sample.{sample_of}
use Rattle.store_record.specs.Record.{record_of}
use Rattle.sift_form.specs.declared.Form.{Form}
use Rattle.sift_form.specs.declared.Form.TheVariants as F

-- the most bytes that are made of a line
abbrev pub room_of : Form → ℕ
room_of F.Sample = 300
room_of F.Text = 100
room_of F.Record = 34

-- the bytes made of a position and half points: its sample, none where it is at odds with itself; its line, with LF; its record
abbrev pub made_from : Form → List ℕ → List ℕ → State → ℕ → List ℕ
made_from F.Sample bbs board state half = sample_of bbs board state half
made_from F.Text bbs board state half = ended_line board state half
made_from F.Record bbs board state half = record_of (record { state = state; half = half; board = board })

-- the bytes made of a loaded line
abbrev pub made_of : Form → Line → List ℕ
made_of form l = made_from form (bitboards_of l.board) l.board l.state l.half
