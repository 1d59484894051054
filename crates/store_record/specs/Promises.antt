-- What each function promises, for all inputs (document 02, W-205). Definitions only.
use Rattle.std.specs.Prelude.{◌≡◌, List, ℕ, eqb, ltb, length, Result}
use Rattle.refusal.specs.Answer.{Answer, given, refused, refusal_of, or_refuse, answered}
use Rattle.refusal.specs.declared.Refusal.{Refusal}
use Rattle.refusal.specs.declared.Refusal.TheVariants as R
use Rattle.position_boards.specs.Boards.{bitboards_of}
use Rattle.position.specs.Checked.{of_side, checked}
use Rattle.position.specs.declared.State.{State}
use Rattle.line_ranks.specs.Promises.{empty_board}
use Rattle.line_parse.specs.Line.{Line}
use Rattle.line.specs.Promises.{Reads, or_shape}
use Rattle.line.specs.declared.inner.Loaded.{Loaded}
use Rattle.store_record.specs.Record.{record_of, piece_says, stored_says}

-- ---- reading: "SHAPE, 18 LENGTH .., 32 ABSENT .., then 19 CODE, 12, 13"
abbrev pub ReadsRecord : List ℕ → ℕ → List ℕ → List ℕ → Result (State × ℕ) Refusal → List ℕ → List ℕ → Type 0
ReadsRecord run number bitboards board r bitboards' board' = Reads (or_shape bitboards board (stored_says run number)) bitboards board r bitboards' board'

-- by value: over a bare board, which a refusal leaves bare
abbrev pub ReadsOver : Answer Line → Loaded → Type 0
ReadsOver a r = Reads a (bitboards_of empty_board) empty_board r.answer r.bitboards r.board

abbrev pub SaysPiece : List ℕ → Loaded → Type 0
SaysPiece piece r = ReadsOver (piece_says piece) r

abbrev pub SaysStored : List ℕ → ℕ → Loaded → Type 0
SaysStored run number r = ReadsOver (stored_says run number) r

-- ---- writing: "SHAPE, the W-201 numbers, RESULT, then LENGTH if the place lent for the record isn't 34 bytes"
unfoldable pub store_of : List ℕ → List ℕ → State → ℕ → List ℕ → Answer (List ℕ)
store_of bitboards board state half place =
    checked bitboards board state
    (or_refuse (ltb half 3) R.Result
    (or_refuse (eqb (length place) 34) R.Length
    (given (record_of (record { state = state; half = half; board = board })))))

abbrev pub is_stored : Answer (List ℕ) → Answer Unit
is_stored (given bytes) = given tt
is_stored (refused n v) = refused n v

-- the place afterwards: the record, or as it was
abbrev pub place_after : Answer (List ℕ) → List ℕ → List ℕ
place_after (given bytes) old = bytes
place_after (refused n v) old = old

pub record WritesRecord (bitboards board : List ℕ) (state : State) (half : ℕ) (place : List ℕ) (r : Result Unit Refusal) (place' : List ℕ) : Type 0 where
  pub answer : answered r ≡ is_stored (store_of bitboards board state half place)
  pub bytes : place' ≡ place_after (store_of bitboards board state half place) place

-- the record of a board, a side and half points
abbrev pub Packs : List ℕ → ℕ → ℕ → List ℕ → Type 0
Packs board side half r = r ≡ record_of (record { state = of_side side; half = half; board = board })

-- ---- a private function
abbrev pub TurnsAway : Refusal → Loaded → Type 0
TurnsAway refusal r = ReadsOver (refusal_of refusal) r
