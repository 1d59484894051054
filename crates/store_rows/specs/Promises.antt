-- What each function promises, for all inputs. Definitions only.
use Rattle.std.specs.Prelude.{◌≡◌, Bool, cond, ◌&&◌, List, [], ℕ, ◌+◌, ◌*◌, ◌/◌, ◌^◌, ◌≤◌, ◌<◌, eqb, leb, ltb, length, Result, Ok}
use Rattle.refusal.specs.declared.Refusal.TheVariants as R
use Rattle.text_out.specs.Text.{written_of}
use Rattle.ledger_row.specs.Row.{row_of}
use Rattle.ledger_row.specs.Promises.{PutsRow}
use Rattle.ledger_row.specs.declared.Row.{Row}
use Rattle.ledger_feed.specs.Machine.{Kept, row_more}
use Rattle.ledger_feed.specs.Promises.{Came, turned, turned_by, many, full, came, came_as}
use Rattle.store_record.specs.Record.{piece_says}
use Rattle.store_cut.specs.Cut.{PiecesSoFar, run_pieces}
use Rattle.store_cut.specs.Promises.{holding_piece}
use Rattle.store_rows.specs.declared.StoreSoFar.{StoreSoFar}
use Rattle.ledger_feed.specs.declared.Unwritten.{Unwritten}

-- before anything was read
abbrev pub BeginsStore : StoreSoFar → Type 0
BeginsStore r = r ≡ record { held = 0; loaded = 0; refused = 0 }

-- ---- the machine: what a piece does to the rows
abbrev pub row_piece : Kept → List ℕ → Kept
row_piece k piece = row_more k (piece_says piece)

-- what was counted, with nothing written yet
abbrev pub store_counts : StoreSoFar → Kept
store_counts state = record { loaded = state.loaded; refused = state.refused; text = [] }

abbrev pub run_store : StoreSoFar → List ℕ → List ℕ → PiecesSoFar Kept
run_store state piece chunk = run_pieces row_piece (holding_piece piece state.held) (store_counts state) chunk

-- SHAPE for a piece buffer that has not 34 bytes, or would hold a whole piece; then the counts, then the room
abbrev pub fit_store : {A : Type 0} → List ℕ → ℕ → ℕ → Bool → A → Came A
fit_store piece held pieces room a =
    cond (eqb (length piece) 34 && ltb held 34) (cond (ltb pieces (2 ^ 64)) (cond room (came a) full) many) (turned_by R.Shape)

-- how many pieces end in a chunk
abbrev pub ends_store : StoreSoFar → List ℕ → ℕ
ends_store state chunk = (state.held + length chunk) / 34

-- ---- feed: 32 bytes of room for each piece that ends in the chunk
abbrev pub store_feed_of : StoreSoFar → List ℕ → List ℕ → List ℕ → Came (PiecesSoFar Kept)
store_feed_of state piece chunk out =
    fit_store piece state.held (state.loaded + state.refused + ends_store state chunk) (leb (32 * ends_store state chunk) (length out))
    (run_store state piece chunk)

abbrev pub so_far_of : PiecesSoFar Kept → StoreSoFar
so_far_of r = record { held = r.left.held; loaded = r.kept.loaded; refused = r.kept.refused }

abbrev pub store_by_value : Came (PiecesSoFar Kept) → Came (StoreSoFar × ℕ)
store_by_value (came r) = came (so_far_of r, length r.kept.text)
store_by_value (turned n l) = turned n l
store_by_value many = many
store_by_value full = full

-- what stands in lent memory afterwards: as it was, unless rows are written
abbrev pub piece_after : Came (PiecesSoFar Kept) → List ℕ → List ℕ
piece_after (came r) old = r.left.piece
piece_after (turned n l) old = old
piece_after many old = old
piece_after full old = old

abbrev pub store_text : Came (PiecesSoFar Kept) → List ℕ
store_text (came r) = r.kept.text
store_text (turned n l) = []
store_text many = []
store_text full = []

-- how many bytes of a buffer an answer speaks of
abbrev pub store_wrote : Came (StoreSoFar × ℕ) → ℕ
store_wrote (came p) = p.1
store_wrote (turned n l) = 0
store_wrote many = 0
store_wrote full = 0

pub record FeedsStore (state : StoreSoFar) (piece chunk out : List ℕ) (r : Result (StoreSoFar × ℕ) Unwritten) (piece' out' : List ℕ) : Type 0 where
  pub answer : came_as r ≡ store_by_value (store_feed_of state piece chunk out)
  pub kept : piece' ≡ piece_after (store_feed_of state piece chunk out) piece
  pub rows : out' ≡ written_of out 0 (store_text (store_feed_of state piece chunk out))
  -- follows from the others, for who takes the rows out
  pub within : store_wrote (came_as r) ≤ length out

-- ---- private functions: the row of a piece; a chunk whose rows have room, and what was taken
abbrev pub RowsPiece : List ℕ → List ℕ → ℕ → ℕ → List ℕ → Row → Type 0
RowsPiece old new at number piece r = PutsRow old new at (piece_says piece) (row_of number (piece_says piece)) r

pub record ReadyStore (state : StoreSoFar) (piece chunk out : List ℕ) : Type 0 where
  pub size : length piece ≡ 34
  pub short : state.held < 34
  pub counts : state.loaded + state.refused + ends_store state chunk < 2 ^ 64
  pub room : 32 * ends_store state chunk ≤ length out

pub record TakesStore (state : StoreSoFar) (piece chunk out : List ℕ) (r : Result (StoreSoFar × ℕ) Unwritten) (piece' out' : List ℕ) : Type 0 where
  pub answer : r ≡ Ok (so_far_of (run_store state piece chunk), length (run_store state piece chunk).kept.text)
  pub kept : piece' ≡ (run_store state piece chunk).left.piece
  pub rows : out' ≡ written_of out 0 (run_store state piece chunk).kept.text
  pub within : length (run_store state piece chunk).kept.text ≤ length out

abbrev pub MakesStore : ℕ → ℕ → ℕ → StoreSoFar → Type 0
MakesStore held loaded others r = r ≡ record { held = held; loaded = loaded; refused = others }
