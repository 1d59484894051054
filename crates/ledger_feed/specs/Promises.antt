-- What each function promises, for all inputs. Definitions only.
use Rattle.std.specs.Prelude.{◌≡◌, Bool, false, cond, List, [], ℕ, ◌+◌, ◌*◌, ◌^◌, ◌≤◌, ◌<◌, eqb, leb, ltb, length, Result, Ok, Err}
use Rattle.refusal.specs.Refusals.{number_of, beside_of}
use Rattle.refusal.specs.declared.Refusal.{Refusal}
use Rattle.refusal.specs.declared.Refusal.TheVariants as R
use Rattle.text_out.specs.Text.{written_of}
use Rattle.line_cut.specs.Lines.{ends}
use Rattle.line_profile.specs.declared.Profile.{Profile}
use Rattle.ledger_feed.specs.Machine.{Machine, at, run}
use Rattle.ledger_feed.specs.declared.SoFar.{SoFar}
use Rattle.ledger_feed.specs.declared.Unwritten.TheVariants as U
use Rattle.ledger_feed.specs.declared.Unwritten.{Unwritten}

-- before anything was read
abbrev pub Starts : SoFar → Type 0
Starts r = r ≡ record { held = 0; cr = false; loaded = 0; refused = 0 }

-- whether so many lines and more are counted in 64 bits
abbrev pub Countable : ℕ → ℕ → ℕ → Bool → Type 0
Countable loaded others more r = r ≡ ltb (loaded + others + more) (2 ^ 64)

-- what a call comes to: a refusal's number with the values beside it; counts that would pass 2^64 − 1; too little room; or what it gives
pub data Came (A : Type 0) : Type 0 where
  turned : ℕ → List ℕ → Came A
  many full : Came A
  came : A → Came A

abbrev pub turned_by : {A : Type 0} → Refusal → Came A
turned_by r = turned (number_of r) (beside_of r)

-- SHAPE for a line buffer that has not 256 bytes, then the counts, then the room
abbrev pub fit : {A : Type 0} → List ℕ → ℕ → Bool → A → Came A
fit line lines room a =
    cond (eqb (length line) 256) (cond (ltb lines (2 ^ 64)) (cond room (came a) full) many) (turned_by R.Shape)

-- ---- feed: 32 bytes of room for each line that ends in the chunk
abbrev pub feed_of : Profile → SoFar → List ℕ → List ℕ → List ℕ → Came Machine
feed_of profile state line chunk out =
    fit line (state.loaded + state.refused + ends chunk) (leb (32 * ends chunk) (length out)) (run profile (at state line []) chunk)

-- the code's answer on the paper: what it gives, or why nothing was written
abbrev pub came_as : {A : Type 0} → Result A Unwritten → Came A
came_as (Ok a) = came a
came_as (Err U.Full) = full
came_as (Err U.Many) = many
came_as (Err (U.Refused r)) = turned_by r

abbrev pub state_of : Machine → SoFar
state_of m = record { held = m.held; cr = m.cr; loaded = m.loaded; refused = m.refused }

abbrev pub came_by_value : Came Machine → Came (SoFar × ℕ)
came_by_value (came m) = came (state_of m, length m.text)
came_by_value (turned n l) = turned n l
came_by_value many = many
came_by_value full = full

-- what stands in lent memory afterwards: as it was, unless rows are written
abbrev pub line_after : Came Machine → List ℕ → List ℕ
line_after (came m) old = m.line
line_after (turned n l) old = old
line_after many old = old
line_after full old = old

abbrev pub text_after : Came Machine → List ℕ
text_after (came m) = m.text
text_after (turned n l) = []
text_after many = []
text_after full = []

-- how many bytes of a buffer an answer speaks of
abbrev pub wrote : Came (SoFar × ℕ) → ℕ
wrote (came p) = p.1
wrote (turned n l) = 0
wrote many = 0
wrote full = 0

pub record Feeds (profile : Profile) (state : SoFar) (line chunk out : List ℕ) (r : Result (SoFar × ℕ) Unwritten) (line' out' : List ℕ) : Type 0 where
  pub answer : came_as r ≡ came_by_value (feed_of profile state line chunk out)
  pub kept : line' ≡ line_after (feed_of profile state line chunk out) line
  pub rows : out' ≡ written_of out 0 (text_after (feed_of profile state line chunk out))
  -- follows from the others, for who takes the rows out
  pub within : wrote (came_as r) ≤ length out

-- ---- private functions: a chunk whose rows have room, and what was taken
pub record Ready (state : SoFar) (line chunk out : List ℕ) : Type 0 where
  pub size : length line ≡ 256
  pub counts : state.loaded + state.refused + ends chunk < 2 ^ 64
  pub room : 32 * ends chunk ≤ length out

pub record Takes (profile : Profile) (state : SoFar) (line chunk out : List ℕ) (r : Result (SoFar × ℕ) Unwritten) (line' out' : List ℕ) : Type 0 where
  pub answer : r ≡ Ok (state_of (run profile (at state line []) chunk), length (run profile (at state line []) chunk).text)
  pub kept : line' ≡ (run profile (at state line []) chunk).line
  pub rows : out' ≡ written_of out 0 (run profile (at state line []) chunk).text
  pub within : length (run profile (at state line []) chunk).text ≤ length out

abbrev pub MakesState : ℕ → Bool → ℕ → ℕ → SoFar → Type 0
MakesState held ends loaded others r = r ≡ record { held = held; cr = ends; loaded = loaded; refused = others }
