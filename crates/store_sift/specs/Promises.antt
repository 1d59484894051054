-- A store sifted, as a consumer of the machine of pieces (store_cut/specs/Cut), and what `feed` promises, for all inputs. Definitions only.
use Rattle.std.specs.Prelude.{◌≡◌, Bool, ◌&&◌, List, [], ℕ, ◌+◌, ◌*◌, ◌^◌, ◌≤◌, ◌<◌, leb, length, Result, Ok}
use Rattle.text_out.specs.Text.{written_of}
use Rattle.line_parse.specs.Line.{Line}
use Rattle.ledger_feed.specs.Promises.{Came, turned, many, full, came, came_as}
use Rattle.store_record.specs.Record.{piece_says}
use Rattle.store_cut.specs.Cut.{PiecesSoFar, run_pieces}
use Rattle.store_cut.specs.Promises.{holding_piece}
use Rattle.store_rows.specs.Promises.{fit_store, ends_store}
use Rattle.store_rows.specs.declared.StoreSoFar.{StoreSoFar}
use Rattle.sift_form.specs.Forms.{room_of, made_of}
use Rattle.sift_form.specs.declared.Form.{Form}
use Rattle.sift_feed.specs.Sifting.{Sifting, sift_more}
use Rattle.ledger_feed.specs.declared.Unwritten.{Unwritten}

-- ---- the machine: what a piece does to what is kept, by whatever is made of a loaded record
abbrev pub sift_piece : (Line → List ℕ) → Sifting → List ℕ → Sifting
sift_piece make s piece = sift_more make s (piece_says piece)

-- before a chunk: the pieces so far are counted, and nothing is written yet
abbrev pub sifting_of : StoreSoFar → Sifting
sifting_of state = record { loaded = state.loaded; refused = state.refused; made = []; rows = [] }

abbrev pub sift_store : (Line → List ℕ) → StoreSoFar → List ℕ → List ℕ → PiecesSoFar Sifting
sift_store make state piece chunk = run_pieces (sift_piece make) (holding_piece piece state.held) (sifting_of state) chunk

abbrev pub store_so_far_in : PiecesSoFar Sifting → StoreSoFar
store_so_far_in r = record { held = r.left.held; loaded = r.kept.loaded; refused = r.kept.refused }

-- ---- feed: room for each piece that ends in the chunk, for what is made of it and 32 bytes for its row
abbrev pub store_sift_room : Form → StoreSoFar → List ℕ → List ℕ → List ℕ → Bool
store_sift_room form state chunk made rows = leb (room_of form * ends_store state chunk) (length made) && leb (32 * ends_store state chunk) (length rows)

-- SHAPE, then the counts, then the room, as the store's rows
abbrev pub store_sift_of : StoreSoFar → Form → List ℕ → List ℕ → List ℕ → List ℕ → Came (PiecesSoFar Sifting)
store_sift_of state form piece chunk made rows =
    fit_store piece state.held (state.loaded + state.refused + ends_store state chunk) (store_sift_room form state chunk made rows)
    (sift_store (made_of form) state piece chunk)

abbrev pub store_sifted_by_value : Came (PiecesSoFar Sifting) → Came (StoreSoFar × ℕ × ℕ)
store_sifted_by_value (came r) = came (store_so_far_in r, length r.kept.made, length r.kept.rows)
store_sifted_by_value (turned n l) = turned n l
store_sifted_by_value many = many
store_sifted_by_value full = full

-- what stands in lent memory afterwards: as it was, unless pieces are taken
abbrev pub piece_sifted : Came (PiecesSoFar Sifting) → List ℕ → List ℕ
piece_sifted (came r) old = r.left.piece
piece_sifted (turned n l) old = old
piece_sifted many old = old
piece_sifted full old = old

abbrev pub sifting_out : Came (PiecesSoFar Sifting) → Sifting
sifting_out (came r) = r.kept
sifting_out (turned n l) = record { loaded = 0; refused = 0; made = []; rows = [] }
sifting_out many = record { loaded = 0; refused = 0; made = []; rows = [] }
sifting_out full = record { loaded = 0; refused = 0; made = []; rows = [] }

-- how many bytes of the two buffers an answer speaks of
abbrev pub store_sifted_bytes : Came (StoreSoFar × ℕ × ℕ) → ℕ × ℕ
store_sifted_bytes (came p) = (p.1, p.2)
store_sifted_bytes (turned n l) = (0, 0)
store_sifted_bytes many = (0, 0)
store_sifted_bytes full = (0, 0)

pub record SiftsStore (state : StoreSoFar) (form : Form) (piece chunk made rows : List ℕ) (r : Result (StoreSoFar × ℕ × ℕ) Unwritten) (piece' made' rows' : List ℕ) : Type 0 where
  pub answer : came_as r ≡ store_sifted_by_value (store_sift_of state form piece chunk made rows)
  pub kept : piece' ≡ piece_sifted (store_sift_of state form piece chunk made rows) piece
  pub making : made' ≡ written_of made 0 (sifting_out (store_sift_of state form piece chunk made rows)).made
  pub rowing : rows' ≡ written_of rows 0 (sifting_out (store_sift_of state form piece chunk made rows)).rows
  -- follow from the others, for who takes the bytes out
  pub made_within : (store_sifted_bytes (came_as r)).0 ≤ length made
  pub rows_within : (store_sifted_bytes (came_as r)).1 ≤ length rows

-- ---- a private function: a chunk whose pieces have room, and what was taken
pub record ReadyToSiftStore (state : StoreSoFar) (form : Form) (piece chunk made rows : List ℕ) : Type 0 where
  pub size : length piece ≡ 34
  pub short : state.held < 34
  pub counts : state.loaded + state.refused + ends_store state chunk < 2 ^ 64
  pub making : room_of form * ends_store state chunk ≤ length made
  pub rowing : 32 * ends_store state chunk ≤ length rows

pub record TakesSiftedStore (state : StoreSoFar) (form : Form) (piece chunk made rows : List ℕ) (r : Result (StoreSoFar × ℕ × ℕ) Unwritten) (piece' made' rows' : List ℕ) : Type 0 where
  pub answer : r
      ≡ Ok (
        store_so_far_in (sift_store (made_of form) state piece chunk),
        length (sift_store (made_of form) state piece chunk).kept.made,
        length (sift_store (made_of form) state piece chunk).kept.rows,
      )
  pub kept : piece' ≡ (sift_store (made_of form) state piece chunk).left.piece
  pub making : made' ≡ written_of made 0 (sift_store (made_of form) state piece chunk).kept.made
  pub rowing : rows' ≡ written_of rows 0 (sift_store (made_of form) state piece chunk).kept.rows
  pub made_within : length (sift_store (made_of form) state piece chunk).kept.made ≤ length made
  pub rows_within : length (sift_store (made_of form) state piece chunk).kept.rows ≤ length rows
