-- What each function promises, for all inputs. Definitions only.
use Rattle.std.specs.Prelude.{List, ℕ, ℤ, Option}
use Rattle.text_out.specs.Text.{Puts}
use Rattle.exchange_value.specs.Answers.{stopped}
use Rattle.captures_row.specs.Rows.{capture_row, stop_row, counts_row}

abbrev pub PutsCapture : List ℕ → List ℕ → ℕ → ℕ → ℕ → ℕ → ℕ → Option ℕ → Type 0
PutsCapture old new at number from kind taken r = Puts old new at (capture_row number from kind taken) r

abbrev pub PutsStop : List ℕ → List ℕ → ℕ → ℕ → Option ℕ → ℤ → Option ℕ → Type 0
PutsStop old new at number stop worth r = Puts old new at (stop_row number (stopped stop) worth) r

abbrev pub PutsCounts : List ℕ → List ℕ → ℕ → ℕ → ℕ → ℕ → Option ℕ → Type 0
PutsCounts old new at lines told others r = Puts old new at (counts_row lines told others) r
