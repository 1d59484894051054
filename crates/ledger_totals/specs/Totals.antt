-- The last row of a ledger (document 01, "The ledger program"). Definitions only.
use Rattle.std.specs.Prelude.{List, ◌++◌, ℕ, Option}
use Rattle.text_in.specs.Text.{text}
use Rattle.text_out.specs.Text.{Puts, decimal_of}

-- "The last row counts lines, loaded rows, refused rows."
unfoldable pub last_row : ℕ → ℕ → ℕ → List ℕ
last_row lines loaded others =
    (text "lines " ++ decimal_of lines) ++ ((text " loaded " ++ decimal_of loaded) ++ ((text " refused " ++ decimal_of others) ++ text "\n"))

-- what the function promises: the row is put at a place
abbrev pub PutsLast : List ℕ → List ℕ → ℕ → ℕ → ℕ → ℕ → Option ℕ → Type 0
PutsLast old new at lines loaded others r = Puts old new at (last_row lines loaded others) r
