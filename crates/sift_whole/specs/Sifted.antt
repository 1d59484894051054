-- What a whole collection comes to when it is sifted, by its lines and by whatever is made of a loaded one. Definitions only.
use Rattle.std.specs.Prelude.{List, [], ◌∷◌, ◌++◌, ℕ, ◌+◌}
use Rattle.line_parse.specs.Line.{Line, line_of}
use Rattle.line_cut.specs.Lines.{lines_of}
use Rattle.line_profile.specs.declared.Profile.TheVariants as P
use Rattle.ledger_whole.specs.Ledger.{totals_of}
use Rattle.sift_close.specs.Ended.{made_by_rule, refused_row_of}

-- what is made of the loaded lines, in the lines' order; of a refused line nothing is
unfoldable pub made_in : (Line → List ℕ) → List (List ℕ) → List ℕ
made_in make [] = []
made_in make (l ∷ ls) = made_by_rule make (line_of l) ++ made_in make ls

-- the ledger's rows of the refused lines, each with its line's number; a loaded line has none here
unfoldable pub refused_rows_from : ℕ → List (List ℕ) → List ℕ
refused_rows_from number [] = []
refused_rows_from number (l ∷ ls) = refused_row_of number (line_of l) ++ refused_rows_from (number + 1) ls

-- WHAT IS MADE of a collection
abbrev pub made_of_all : (Line → List ℕ) → List ℕ → List ℕ
made_of_all make input = made_in make (lines_of input)

-- AND ITS ROWS: the refused lines', and then the ledger's own last row, with the ledger's counts of the same lines
abbrev pub rows_of_all : List ℕ → List ℕ
rows_of_all input = refused_rows_from 1 (lines_of input) ++ totals_of P.Any (lines_of input)
