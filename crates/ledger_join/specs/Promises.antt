-- What each function promises, for all inputs. Definitions only.
use Rattle.std.specs.Prelude.{◌≡◌, Bool, false, cond, not, ◌&&◌, List, [], ◌++◌, ℕ, ◌+◌, ◌-◌, ◌*◌, ◌/◌, ◌^◌, ◌≤◌, ◌<◌, eqb, leb, ltb, length, take, drop, get_or, Result, Ok, Err}
use Rattle.refusal.specs.declared.Refusal.TheVariants as R
use Rattle.text_out.specs.Text.{written_of, decimal_of, Adds}
use Rattle.line_cut.specs.Lines.{ends}
use Rattle.ledger_totals.specs.Totals.{last_row}
use Rattle.ledger_feed.specs.Promises.{Came, turned, many, full, came, turned_by, came_as}
use Rattle.ledger_joined_row.specs.Promises.{row_is_rule, text_of}
use Rattle.ledger_joined_row.specs.declared.Kind.TheVariants as K
use Rattle.ledger_plain_row.specs.Plain.{no_row, plain_in}
use Rattle.ledger_plain_row.specs.declared.PlainRow.{PlainRow}
use Rattle.ledger_join.specs.Machine.{Joint, joint, after_row, own_number, whole_number, byte_held, byte_on, bytes_on}
use Rattle.ledger_join.specs.declared.Joining.{Joining}
use Rattle.ledger_join.specs.declared.Fit.{Fit}
use Rattle.ledger_join.specs.declared.Fit.TheVariants as I
use Rattle.ledger_join.specs.declared.Unjoined.{Unjoined}
use Rattle.ledger_join.specs.declared.Unjoined.TheVariants as J
use Rattle.ledger_join.specs.declared.ByteTaken.{ByteTaken}
use Rattle.ledger_join.specs.declared.SomeTaken.{SomeTaken}
use Rattle.ledger_feed.specs.declared.Unwritten.{Unwritten}

-- ---- before anything was read
abbrev pub first_part : Joining
first_part = record { part = 1; loads = 0; refusals = 0; loaded = 0; refused = 0; held = 0; ended = false; stopped = false }

abbrev pub StartsJoin : Joining → Type 0
StartsJoin r = r ≡ first_part

-- ---- feed: a row buffer of 84 bytes, counts of 64 bits, and 64 bytes of room for each row that ends in the chunk
abbrev pub counts_fit : Joining → ℕ → Bool
counts_fit s more = ltb (s.loads + s.refusals + more) (2 ^ 64) && ltb (s.loaded + s.refused + more) (2 ^ 64)

abbrev pub feed_part : Joining → List ℕ → List ℕ → List ℕ → Came Joint
feed_part s row chunk out =
    cond (eqb (length row) 84)
    (cond (counts_fit s (ends chunk)) (cond (leb (64 * ends chunk) (length out)) (came (bytes_on (joint row s []) chunk)) full) many)
    (turned_by R.Shape)

abbrev pub joint_by_value : Came Joint → Came (Joining × ℕ)
joint_by_value (came m) = came (m.state, length m.text)
joint_by_value (turned n l) = turned n l
joint_by_value many = many
joint_by_value full = full

abbrev pub row_after : Came Joint → List ℕ → List ℕ
row_after (came m) old = m.row
row_after (turned n l) old = old
row_after many old = old
row_after full old = old

abbrev pub joint_text : Came Joint → List ℕ
joint_text (came m) = m.text
joint_text (turned n l) = []
joint_text many = []
joint_text full = []

abbrev pub wrote_of : Came (Joining × ℕ) → ℕ
wrote_of (came p) = p.1
wrote_of (turned n l) = 0
wrote_of many = 0
wrote_of full = 0

pub record FeedsPart (s : Joining) (row chunk out : List ℕ) (r : Result (Joining × ℕ) Unwritten) (row' out' : List ℕ) : Type 0 where
  pub answer : came_as r ≡ joint_by_value (feed_part s row chunk out)
  pub kept : row' ≡ row_after (feed_part s row chunk out) row
  pub rows : out' ≡ written_of out 0 (joint_text (feed_part s row chunk out))
  -- follows from the others, for who takes the rows out
  pub within : wrote_of (came_as r) ≤ length out

-- ---- the end of a part: its totals were there, and nothing after them
pub data PartEnd (A : Type 0) : Type 0 where
  onward : A → PartEnd A
  no_ledger_at : ℕ → ℕ → PartEnd A
  tooMany noRoom : PartEnd A

abbrev pub next_part : Joining → Joining
next_part s = record { part = s.part + 1; loads = s.loads; refusals = s.refusals; loaded = 0; refused = 0; held = 0; ended = false; stopped = false }

abbrev pub next_part_of : Joining → PartEnd Joining
next_part_of s =
    cond (ltb (s.part + 1) (2 ^ 64) && ltb (s.loaded + s.refused + 1) (2 ^ 64))
    (cond (s.ended && not s.stopped) (onward (next_part s)) (no_ledger_at s.part (own_number s))) tooMany

-- the code's answer on the paper
abbrev pub part_said : {A : Type 0} → Result A Unjoined → PartEnd A
part_said (Ok a) = onward a
part_said (Err (J.NoLedger part number)) = no_ledger_at part number
part_said (Err J.Full) = noRoom
part_said (Err J.Many) = tooMany

abbrev pub TurnsPart : Joining → Result Joining Unjoined → Type 0
TurnsPart s r = part_said r ≡ next_part_of s

-- ---- the end of all: between two parts, the totals of all
abbrev pub is_between : Joining → Bool
is_between s = eqb s.loaded 0 && (eqb s.refused 0 && (eqb s.held 0 && (not s.ended && not s.stopped)))

abbrev pub totals_of_all : Joining → List ℕ
totals_of_all s = last_row (s.loads + s.refusals) s.loads s.refusals

abbrev pub end_join_of : Joining → List ℕ → PartEnd (List ℕ)
end_join_of s out =
    cond (counts_fit s 1)
    (cond (is_between s) (cond (leb 84 (length out)) (onward (totals_of_all s)) noRoom) (no_ledger_at s.part (own_number s))) tooMany

abbrev pub end_by_value : PartEnd (List ℕ) → PartEnd ℕ
end_by_value (onward t) = onward (length t)
end_by_value (no_ledger_at part number) = no_ledger_at part number
end_by_value tooMany = tooMany
end_by_value noRoom = noRoom

abbrev pub end_text : PartEnd (List ℕ) → List ℕ
end_text (onward t) = t
end_text (no_ledger_at part number) = []
end_text tooMany = []
end_text noRoom = []

abbrev pub end_wrote : PartEnd ℕ → ℕ
end_wrote (onward n) = n
end_wrote (no_ledger_at part number) = 0
end_wrote tooMany = 0
end_wrote noRoom = 0

pub record EndsJoin (s : Joining) (out : List ℕ) (r : Result ℕ Unjoined) (out' : List ℕ) : Type 0 where
  pub answer : part_said r ≡ end_by_value (end_join_of s out)
  pub row : out' ≡ written_of out 0 (end_text (end_join_of s out))
  pub within : end_wrote (part_said r) ≤ length out

-- ---- private functions
abbrev pub both_of : Bool → Bool → Bool
both_of a b = a && b

-- room and a number for a row at every byte
abbrev pub is_ample : Joining → ℕ → ℕ → Bool
is_ample s bytes room = leb bytes (room / 64) && counts_fit s bytes

-- room and a number for each row that ends in the chunk
abbrev pub fit_of : Joining → List ℕ → ℕ → Fit
fit_of s chunk room = cond (counts_fit s (ends chunk)) (cond (leb (ends chunk) (room / 64)) I.Takes I.Full) I.Many

-- a row that has ended
pub record ClosesRow (s : Joining) (row out : List ℕ) (at : ℕ) (r : ByteTaken) (out' : List ℕ) : Type 0 where
  pub state : r.state ≡ after_row s (row_is_rule (own_number s) s.loaded s.refused (take s.held row))
  pub text : Adds out at (text_of (own_number s) (whole_number s) (take s.held row)) out' r.end

-- what one more row needs
pub record RowReady (s : Joining) (out : List ℕ) (at more : ℕ) : Type 0 where
  pub all : s.loads + s.refusals + more < 2 ^ 64
  pub own : s.loaded + s.refused + more < 2 ^ 64
  pub room : at + 64 * more ≤ length out

pub record HoldsByte (s : Joining) (row out : List ℕ) (byte at : ℕ) (r : ByteTaken) (row' out' : List ℕ) : Type 0 where
  pub state : r.state ≡ (byte_held s row [] byte).state
  pub kept : row' ≡ (byte_held s row [] byte).row
  pub text : Adds out at (byte_held s row [] byte).text out' r.end

pub record TakesByte (s : Joining) (row out : List ℕ) (byte at : ℕ) (r : ByteTaken) (row' out' : List ℕ) : Type 0 where
  pub state : r.state ≡ (byte_on (joint row s []) byte).state
  pub kept : row' ≡ (byte_on (joint row s []) byte).row
  pub text : Adds out at (byte_on (joint row s []) byte).text out' r.end

-- a row may begin, and has a number of 64 bits
abbrev pub is_fresh : Joining → Bool
is_fresh s = eqb s.held 0 && (not s.ended && (not s.stopped && ltb (s.loaded + s.refused) (2 ^ 64 - 1)))

abbrev pub plain_at : Joining → List ℕ → PlainRow
plain_at s chunk = cond (is_fresh s) (plain_in (own_number s) chunk) no_row

-- a loaded line's row, and its number in the whole
pub record PlainReady (s : Joining) (row text whole out : List ℕ) (front at : ℕ) : Type 0 where
  pub ready : RowReady s out at 1
  pub size : length row ≡ 84
  pub short : length text ≤ 32
  pub within : front ≤ length text
  pub digits : length whole ≤ 20

pub record TakesPlain (s : Joining) (row text whole out : List ℕ) (front at : ℕ) (r : ByteTaken) (row' out' : List ℕ) : Type 0 where
  pub state : r.state ≡ after_row s K.Loaded
  pub kept : row' ≡ written_of row 0 text
  pub put : Adds out at (whole ++ drop front text) out' r.end

-- the first bytes of a chunk: a row or one byte
pub record SomeReady (s : Joining) (row chunk whole out : List ℕ) (at : ℕ) : Type 0 where
  pub ready : RowReady s out at (ends chunk)
  pub size : length row ≡ 84
  pub some : 0 < length chunk
  pub digits : length whole ≤ 20
  pub number : whole_number s < 2 ^ 64 → whole ≡ decimal_of (whole_number s)

pub record TakesSome (s : Joining) (row chunk out : List ℕ) (at : ℕ) (r : SomeTaken) (row' out' : List ℕ) : Type 0 where
  pub some : 0 < r.passed
  pub passed : r.passed ≤ length chunk
  pub state : r.state ≡ (bytes_on (joint row s []) (take r.passed chunk)).state
  pub kept : row' ≡ (bytes_on (joint row s []) (take r.passed chunk)).row
  pub text : Adds out at (bytes_on (joint row s []) (take r.passed chunk)).text out' r.end

-- the number of the next row, after n, kept as text: its first bytes. Past 64 bits nothing is said of it
pub record KeepsNumber (text : List ℕ) (k n : ℕ) : Type 0 where
  pub size : length text ≡ 20
  pub within : k ≤ 20
  pub number : n + 1 < 2 ^ 64 → take k text ≡ decimal_of (n + 1)

-- one more, and no digit but the last changes
abbrev pub is_next : List ℕ → ℕ → ℕ → ℕ → Bool
is_next text k from to = leb 1 k && (eqb to (from + 1) && ltb (get_or text (k - 1) 0) 57)

pub record TakesBytes (s : Joining) (row chunk out : List ℕ) (r : Result (Joining × ℕ) Unwritten) (row' out' : List ℕ) : Type 0 where
  pub answer : r ≡ Ok ((bytes_on (joint row s []) chunk).state, length (bytes_on (joint row s []) chunk).text)
  pub kept : row' ≡ (bytes_on (joint row s []) chunk).row
  pub rows : out' ≡ written_of out 0 (bytes_on (joint row s []) chunk).text
  pub within : length (bytes_on (joint row s []) chunk).text ≤ length out
