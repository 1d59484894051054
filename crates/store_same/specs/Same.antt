-- What is claimed of records (document 02, W-205), about what `write_record` and `read_record` promise. Definitions only.
use Rattle.std.specs.Prelude.{◌≡◌, true, List, ℕ, ◌^◌, ◌<◌, length, get_or, Result, Ok}
use Rattle.position_boards.specs.Boards.{bitboards_of}
use Rattle.position_consistent.specs.Consistent.{consistent}
use Rattle.position.specs.Checked.{of_side}
use Rattle.position.specs.declared.State.{State}
use Rattle.line_parse.specs.Line.{Line}
use Rattle.store_record.specs.Record.{record_of}
use Rattle.store_record.specs.Promises.{ReadsRecord, WritesRecord}
use Rattle.refusal.specs.declared.Refusal.{Refusal}

-- a call of `write_record` that wrote: what it was lent, and the place afterwards
pub record WroteRecord : Type 0 where
  pub bitboards : List ℕ
  pub board : List ℕ
  pub state : State
  pub half : ℕ
  pub place : List ℕ
  pub place' : List ℕ
  -- each bitboard is of 64 bits
  pub small : (b : ℕ) → get_or bitboards b 0 < 2 ^ 64
  pub writes : WritesRecord bitboards board state half place (Ok tt) place'

-- a call of `read_record` on that place, which is record 0 of a run of one, into memory of the right shape
pub record ReadBack (w : WroteRecord) : Type 0 where
  pub bitboards : List ℕ
  pub board : List ℕ
  pub boards_14 : length bitboards ≡ 14
  pub bytes_64 : length board ≡ 64
  pub answer : Result (State × ℕ) Refusal
  pub bitboards' : List ℕ
  pub board' : List ℕ
  pub reads : ReadsRecord w.place' 0 bitboards board answer bitboards' board'

-- WRITTEN, THEN READ: the same side, half points, bitboards and board; rights, square and counters, which no record holds, read as where they are not given
pub record Again (w : WroteRecord) (r : ReadBack w) : Type 0 where
  pub said : r.answer ≡ Ok (of_side w.state.side, w.half)
  pub boards : r.bitboards' ≡ w.bitboards
  pub bytes : r.board' ≡ w.board

-- READ, THEN WRITTEN: what is read of 34 bytes is consistent, and its record is the same 34 bytes
pub record Back (bytes : List ℕ) (l : Line) : Type 0 where
  pub boards : length l.board ≡ 64
  pub fits : consistent (bitboards_of l.board) l.board ≡ true
  pub same : record_of l ≡ bytes

-- "One position and result has one record": `record_of` is a function; and two have two, but for rights, square and counters
abbrev pub TwoHaveTwo : WroteRecord → WroteRecord → Type 0
TwoHaveTwo w v = w.place' ≡ v.place' → (w.state.side ≡ v.state.side) × (w.half ≡ v.half) × (w.bitboards ≡ v.bitboards) × (w.board ≡ v.board)
