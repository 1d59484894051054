-- The row of a line where it ends: of the line its first bytes are at hand, in a buffer. Definitions only.
use Rattle.std.specs.Prelude.{List, ℕ}
use Rattle.line_profile.specs.Under.{said_under}
use Rattle.line_profile.specs.declared.Profile.{Profile}
use Rattle.ledger_row.specs.Row.{row_of}
use Rattle.ledger_row.specs.Promises.{PutsRow}
use Rattle.ledger_row.specs.declared.Row.{Row}

-- what the function promises: the row of what the line says under the profile is put, and it is said whether the line was loaded
abbrev pub Closes : Profile → List ℕ → List ℕ → ℕ → ℕ → List ℕ → ℕ → Row → Type 0
Closes profile old new at number line size r = PutsRow old new at (said_under profile line size) (row_of number (said_under profile line size)) r
