-- The rows of a store made by calls: a chunk and a buffer for each call of `feed`, and a buffer for the call of `finish`. Definitions only.
use Rattle.std.specs.Prelude.{List, [], ◌∷◌, ◌++◌, ℕ, ◌+◌, ◌*◌, ◌/◌, ◌≤◌, length, take, Result, Ok, Err}
use Rattle.ledger_whole.specs.Calls.{Last, last_rows_of}
use Rattle.store_rows.specs.Promises.{FeedsStore}
use Rattle.store_rows.specs.declared.StoreSoFar.{StoreSoFar}
use Rattle.store_finish.specs.Promises.{FinishesStore}
use Rattle.ledger_feed.specs.declared.Unwritten.TheVariants as U
use Rattle.ledger_feed.specs.declared.Unwritten.{Unwritten}

-- a call of `feed`: what it was lent, what it answered, and the memory afterwards
pub record StoreCall : Type 0 where
  pub chunk : List ℕ
  pub out : List ℕ
  pub fed : Result (StoreSoFar × ℕ) Unwritten
  pub piece' : List ℕ
  pub out' : List ℕ

-- the state that a call hands on, and the rows that it wrote
abbrev pub store_next : Result (StoreSoFar × ℕ) Unwritten → StoreSoFar → StoreSoFar
store_next (Ok (state, written)) before = state
store_next (Err U.Full) before = before
store_next (Err U.Many) before = before
store_next (Err (U.Refused r)) before = before

abbrev pub store_rows_of : Result (StoreSoFar × ℕ) Unwritten → List ℕ → List ℕ
store_rows_of (Ok (state, written)) out' = take written out'
store_rows_of (Err U.Full) out' = []
store_rows_of (Err U.Many) out' = []
store_rows_of (Err (U.Refused r)) out' = []

-- each call does what `feed` promises, from the state and the piece buffer that the call before it left; then `finish`
unfoldable pub StoreCallsMade : StoreSoFar → List ℕ → List StoreCall → Last → Type 0
StoreCallsMade state piece [] last = FinishesStore state last.out last.finished last.out'
StoreCallsMade state piece (c ∷ cs) last =
    FeedsStore state piece c.chunk c.out c.fed c.piece' c.out' × StoreCallsMade (store_next c.fed state) c.piece' cs last

-- all that is written, call after call
unfoldable pub all_stored : List StoreCall → Last → List ℕ
all_stored [] last = last_rows_of last.finished last.out'
all_stored (c ∷ cs) last = store_rows_of c.fed c.out' ++ all_stored cs last

-- the whole store, which the chunks are cut from
unfoldable pub store_input : List StoreCall → List ℕ
store_input [] = []
store_input (c ∷ cs) = c.chunk ++ store_input cs

-- 32 bytes of room for each 34 bytes of a chunk and 32 more, and 116 for the last rows
unfoldable pub RoomyStore : List StoreCall → Last → Type 0
RoomyStore [] last = 116 ≤ length last.out
RoomyStore (c ∷ cs) last = (32 * (1 + length c.chunk / 34) ≤ length c.out) × RoomyStore cs last

-- before the first call
abbrev pub fresh_store : StoreSoFar
fresh_store = record { held = 0; loaded = 0; refused = 0 }
