-- A line or a record where it ends: what it makes, or its row. Definitions only.
use Rattle.std.specs.Prelude.{◌≡◌, Bool, true, false, cond, List, [], ℕ, Result, Ok, Err}
use Rattle.refusal.specs.Answer.{Answer, given, refused}
use Rattle.refusal.specs.Refusals.{number_of}
use Rattle.text_out.specs.Text.{Adds}
use Rattle.line_parse.specs.Line.{Line}
use Rattle.line.specs.declared.inner.Loaded.{Loaded}
use Rattle.line_held.specs.Held.{said_of}
use Rattle.ledger_row.specs.Row.{refused_row, row_of, is_loaded}
use Rattle.sift_form.specs.Forms.{made_from, made_of}
use Rattle.sift_form.specs.declared.Form.{Form}
use Rattle.sift_close.specs.declared.Closed.{Closed}
use Rattle.refusal.specs.declared.Refusal.{Refusal}
use Rattle.position.specs.declared.State.{State}

-- what a line makes, by whatever is made of a loaded one: of a refused one nothing is
abbrev pub made_by_rule : (Line → List ℕ) → Answer Line → List ℕ
made_by_rule make (given l) = make l
made_by_rule make (refused n beside) = []

-- the ledger's row of a refused line; a loaded one has none here
abbrev pub refused_row_of : ℕ → Answer Line → List ℕ
refused_row_of number (given l) = []
refused_row_of number (refused n beside) = row_of number (refused n beside)

-- whatever said it: one of the two is added to its buffer, and the line is counted as loaded or as refused
pub record ClosesSaid (form : Form) (said : Answer Line) (number : ℕ) (made : List ℕ) (at : ℕ) (rows : List ℕ) (from : ℕ) (r : Closed)
    (made' rows' : List ℕ) : Type 0 where
  pub loaded : r.loaded ≡ cond (is_loaded said) 1 0
  pub refused : r.refused ≡ cond (is_loaded said) 0 1
  pub making : Adds made at (made_by_rule (made_of form) said) made' r.made
  pub rowing : Adds rows from (refused_row_of number said) rows' r.rows

-- what `close` promises: it is said by a line, of which the first bytes are at hand, in a buffer
abbrev pub ClosesSifted : Form → List ℕ → ℕ → ℕ → List ℕ → ℕ → List ℕ → ℕ → Closed → List ℕ → List ℕ → Type 0
ClosesSifted form line size number made at rows from r made' rows' = ClosesSaid form (said_of line size) number made at rows from r made' rows'

-- ---- the same by what a reader gave, whether of a line or of a record
abbrev pub is_read : Result (State × ℕ) Refusal → Bool
is_read (Ok (state, half)) = true
is_read (Err q) = false

abbrev pub made_read : Form → List ℕ → List ℕ → Result (State × ℕ) Refusal → List ℕ
made_read form bbs board (Ok (state, half)) = made_from form bbs board state half
made_read form bbs board (Err q) = []

abbrev pub row_read_rule : ℕ → Result (State × ℕ) Refusal → List ℕ
row_read_rule number (Ok (state, half)) = []
row_read_rule number (Err q) = refused_row number (number_of q)

-- what `tell` promises
pub record TellsRead (form : Form) (read : Loaded) (number : ℕ) (made : List ℕ) (at : ℕ) (rows : List ℕ) (from : ℕ) (r : Closed)
    (made' rows' : List ℕ) : Type 0 where
  pub loaded : r.loaded ≡ cond (is_read read.answer) 1 0
  pub refused : r.refused ≡ cond (is_read read.answer) 0 1
  pub making : Adds made at (made_read form read.bitboards read.board read.answer) made' r.made
  pub rowing : Adds rows from (row_read_rule number read.answer) rows' r.rows
