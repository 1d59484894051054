-- What each function promises, for all inputs. Definitions only.
use Rattle.std.specs.Prelude.{◌≡◌, List, ℕ}
use Rattle.ledger_plain_row.specs.Plain.{plain_in}
use Rattle.ledger_plain_row.specs.declared.PlainRow.{PlainRow}

abbrev pub TellsRow : ℕ → List ℕ → PlainRow → Type 0
TellsRow number s r = r ≡ plain_in number s
