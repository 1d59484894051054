-- What each door promises, for all inputs: what its function says, as numbers that C lends. Definitions only.
use Rattle.std.specs.Prelude.{◌≡◌, List, ℕ}
use Rattle.refusal.specs.Answer.{Answer}
use Rattle.line_parse.specs.Line.{Line}
use Rattle.line.specs.Promises.{or_shape}
use Rattle.store_record.specs.Record.{stored_says}
use Rattle.store_record.specs.Promises.{store_of, place_after}
use Rattle.abi.specs.Promises.{ReadsSaid}
use Rattle.abi.specs.declared.lines.Line.{Line as Read}
use Rattle.abi_codes.specs.Codes.{answer_number}
use Rattle.abi_codes.specs.declared.Code.{Code}
use Rattle.abi_states.specs.States.{state_taken}
use Rattle.abi_states.specs.declared.State.{State as Stated}

-- what the record of a number says, after SHAPE
abbrev pub record_said : List ℕ → ℕ → List ℕ → List ℕ → Answer Line
record_said run number bitboards board = or_shape bitboards board (stored_says run number)

abbrev pub RecordRead : List ℕ → ℕ → List ℕ → List ℕ → Read → List ℕ → List ℕ → Type 0
RecordRead run number bitboards board r bitboards' board' = ReadsSaid (record_said run number bitboards board) bitboards board r bitboards' board'

pub record RecordWritten (bitboards board : List ℕ) (state : Stated) (half : ℕ) (place : List ℕ) (r : Code) (place' : List ℕ) : Type 0 where
  pub code : r ≡ answer_number (store_of bitboards board (state_taken state) half place)
  pub bytes : place' ≡ place_after (store_of bitboards board (state_taken state) half place) place
