-- What is claimed of the rows of a store. Definitions only.
use Rattle.std.specs.Prelude.{◌≡◌, List, [], ◌∷◌, ◌++◌, map, ℕ, ◌^◌, ◌<◌, length}
use Rattle.refusal.specs.Answer.{given}
use Rattle.line_parse.specs.Line.{Line, line_of}
use Rattle.line_cut.specs.Lines.{lines_of}
use Rattle.line_profile.specs.declared.Profile.TheVariants as P
use Rattle.ledger_whole.specs.Ledger.{ledger_of}
use Rattle.ledger_whole.specs.Calls.{Last}
use Rattle.store_record.specs.Record.{record_of}
use Rattle.store_cut.specs.Pieces.{pieces_of}
use Rattle.store_rows.specs.Rows.{store_ledger_of}
use Rattle.store_whole.specs.Calls.{StoreCall, StoreCallsMade, RoomyStore, all_stored, store_input, fresh_store}

-- THE ROWS OF A STORE: for every way the input is cut into chunks, whatever the piece buffer held, all that is written is the rows of the whole
-- store; wherever there is room for the rows and the store has fewer than 2^64 pieces
pub record WholeStore (piece : List ℕ) (calls : List StoreCall) (last : Last) : Type 0 where
  pub rows : length piece ≡ 34 → RoomyStore calls last → length (pieces_of (store_input calls)) < 2 ^ 64 → StoreCallsMade fresh_store piece calls last
      → all_stored calls last ≡ store_ledger_of (store_input calls)

-- the store of positions and results, record after record
unfoldable pub store_from : List Line → List ℕ
store_from [] = []
store_from (l ∷ ls) = record_of l ++ store_from ls

-- A STORE MADE OF GOOD LINES gives the very bytes of the collection's ledger
pub record SameRows (input : List ℕ) (ls : List Line) : Type 0 where
  pub rows : map line_of (lines_of input) ≡ map (λ (l : Line). given l) ls → store_ledger_of (store_from ls) ≡ ledger_of P.Any input
