-- The row of a collection's error where the input ends, and that it is the whole collection's (document 02, W-210; its form is the program's own).
-- Definitions only.
use Rattle.std.specs.Prelude.{◌≡◌, List, ℕ, length, Result, Option}
use Rattle.refusal.specs.Answer.{Answer, given, refused, answered_by}
use Rattle.text_out.specs.Text.{place, place_of, written_of}
use Rattle.ledger_totals.specs.Error.{error_row}
use Rattle.score_errors.specs.declared.Totals.{Totals}
use Rattle.score_collection.specs.Promises.{end_of}
use Rattle.score_collection.specs.declared.Gathered.{Gathered}
use Rattle.score_collected.specs.Collected.{collected_of, PieceCall, PiecesThen, whole_input, begun}
use Rattle.refusal.specs.declared.Refusal.{Refusal}

-- the row of totals, and of how many lines were refused
abbrev pub totals_row : Totals × ℕ → List ℕ
totals_row t = error_row t.0.scored t.0.apart t.1 t.0.sum

-- the place after the row, or none where it has no room
abbrev pub written_paper : Result (Option ℕ) Refusal → Answer (List ℕ)
written_paper = answered_by place

-- of an answer: the row is put at the start of the buffer; of a refusal nothing is
abbrev pub row_place : List ℕ → Answer (Totals × ℕ) → Answer (List ℕ)
row_place out (given t) = given (place_of out 0 (totals_row t))
row_place out (refused number beside) = refused number beside

abbrev pub row_buffer : List ℕ → Answer (Totals × ℕ) → List ℕ
row_buffer out (given t) = written_of out 0 (totals_row t)
row_buffer out (refused number beside) = out

abbrev pub PutsTotals : Totals → ℕ → List ℕ → Result (Option ℕ) Refusal → List ℕ → Type 0
PutsTotals totals others out r out' = (written_paper r ≡ row_place out (given (totals, others))) × (out' ≡ row_buffer out (given (totals, others)))

pub record WritesError (gathered : Gathered) (line out : List ℕ) (r : Result (Option ℕ) Refusal) (out' : List ℕ) : Type 0 where
  pub answer : written_paper r ≡ row_place out (end_of gathered line)
  pub buffer : out' ≡ row_buffer out (end_of gathered line)

-- THE ROW: for every way the input is cut, whatever the line buffer held, it is the row of the whole input's totals
pub record ErrorOfWhole (line : List ℕ) (calls : List PieceCall) (out : List ℕ) (r : Result (Option ℕ) Refusal) (out' : List ℕ) : Type 0 where
  pub row : length line ≡ 256 → PiecesThen (λ (g : Gathered) (l : List ℕ). WritesError g l out r out') begun line calls
      → (written_paper r ≡ row_place out (collected_of (whole_input calls))) × (out' ≡ row_buffer out (collected_of (whole_input calls)))
