-- A ledger made by calls: a chunk and a buffer for each call of `feed`, and a buffer for the call of `finish`. Definitions only.
use Rattle.std.specs.Prelude.{false, List, [], ◌∷◌, ◌++◌, ℕ, ◌*◌, ◌≤◌, length, take, Result, Ok, Err}
use Rattle.line_cut.specs.Lines.{ends}
use Rattle.line_profile.specs.declared.Profile.{Profile}
use Rattle.ledger_feed.specs.Promises.{Feeds}
use Rattle.ledger_feed.specs.declared.SoFar.{SoFar}
use Rattle.ledger_finish.specs.Promises.{Finishes}
use Rattle.ledger_feed.specs.declared.Unwritten.TheVariants as U
use Rattle.ledger_feed.specs.declared.Unwritten.{Unwritten}

-- a call of `feed`: what it was lent, what it answered, and the memory afterwards
pub record Call : Type 0 where
  pub chunk : List ℕ
  pub out : List ℕ
  pub fed : Result (SoFar × ℕ) Unwritten
  pub line' : List ℕ
  pub out' : List ℕ

-- the call of `finish`
pub record Last : Type 0 where
  pub out : List ℕ
  pub finished : Result ℕ Unwritten
  pub out' : List ℕ

-- the state that a call hands on, and the rows that it wrote
abbrev pub next : Result (SoFar × ℕ) Unwritten → SoFar → SoFar
next (Ok (state, wrote)) before = state
next (Err U.Full) before = before
next (Err U.Many) before = before
next (Err (U.Refused r)) before = before

abbrev pub rows_of : Result (SoFar × ℕ) Unwritten → List ℕ → List ℕ
rows_of (Ok (state, wrote)) out' = take wrote out'
rows_of (Err U.Full) out' = []
rows_of (Err U.Many) out' = []
rows_of (Err (U.Refused r)) out' = []

abbrev pub last_rows_of : Result ℕ Unwritten → List ℕ → List ℕ
last_rows_of (Ok wrote) out' = take wrote out'
last_rows_of (Err U.Full) out' = []
last_rows_of (Err U.Many) out' = []
last_rows_of (Err (U.Refused r)) out' = []

-- each call does what `feed` promises, from the state and the line buffer that the call before it left; then `finish`
unfoldable pub CallsMade : Profile → SoFar → List ℕ → List Call → Last → Type 0
CallsMade profile state line [] last = Finishes profile state line last.out last.finished last.out'
CallsMade profile state line (c ∷ cs) last = Feeds profile state line c.chunk c.out c.fed c.line' c.out'
    × CallsMade profile (next c.fed state) c.line' cs last

-- all that is written, call after call
unfoldable pub all_written : List Call → Last → List ℕ
all_written [] last = last_rows_of last.finished last.out'
all_written (c ∷ cs) last = rows_of c.fed c.out' ++ all_written cs last

-- the whole input, which the chunks are cut from
unfoldable pub input : List Call → List ℕ
input [] = []
input (c ∷ cs) = c.chunk ++ input cs

-- 32 bytes of room for each line that ends in a chunk, and 116 for the last rows
unfoldable pub Roomy : List Call → Last → Type 0
Roomy [] last = 116 ≤ length last.out
Roomy (c ∷ cs) last = (32 * ends c.chunk ≤ length c.out) × Roomy cs last

-- before the first call
abbrev pub fresh : SoFar
fresh = record { held = 0; cr = false; loaded = 0; refused = 0 }
