-- The rows of captures that stand side by side in three arrays: what the private functions write. Definitions only.
use Rattle.std.specs.Prelude.{List, [], ◌++◌, ℕ, zero, suc, ◌≤◌, length, get_or, take, Result, Ok, Err, Option}
use Rattle.refusal.specs.Refusals.{number_of}
use Rattle.exchange_value.specs.Settled.{settled}
use Rattle.exchange_value.specs.Answers.{stopped}
use Rattle.exchange.specs.declared.inner.Listed.{Listed}
use Rattle.ledger_row.specs.Row.{refused_row}
use Rattle.captures_row.specs.Rows.{capture_row, stop_row}
use Rattle.refusal.specs.declared.Refusal.{Refusal}

-- the first of them
unfoldable pub rows_up_to : ℕ → ℕ → List ℕ → List ℕ → List ℕ → List ℕ
rows_up_to zero number from kind taken = []
rows_up_to (suc i) number from kind taken = rows_up_to i number from kind taken ++ capture_row number (get_or from i 0) (get_or kind i 0) (get_or taken i 0)

abbrev pub listed_rows : ℕ → Listed → Option ℕ → List ℕ
listed_rows number l stop =
    rows_up_to l.count number l.from l.kind l.taken ++ stop_row number (stopped stop) (settled (take l.count l.taken))

abbrev pub checked_rows : ℕ → Result Unit Refusal → Listed → Option ℕ → List ℕ
checked_rows number (Ok tt) l stop = listed_rows number l stop
checked_rows number (Err q) l stop = refused_row number (number_of q)

-- as many in each array as there are captures
pub record Filled (l : Listed) : Type 0 where
  pub most : l.count ≤ 32
  pub froms : l.count ≤ length l.from
  pub kinds : l.count ≤ length l.kind
  pub values : l.count ≤ length l.taken

-- a buffer with room for their rows
pub record RoomyRows (n : ℕ) (out from kind taken : List ℕ) : Type 0 where
  pub room : 2048 ≤ length out
  pub most : n ≤ 32
  pub froms : n ≤ length from
  pub kinds : n ≤ length kind
  pub values : n ≤ length taken
