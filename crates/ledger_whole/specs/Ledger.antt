-- The ledger of a whole collection, by its lines (document 01, "A collection's line", "The ledger program"), under a profile (document 02, W-212).
-- Definitions only.
use Rattle.std.specs.Prelude.{cond, List, [], ◌∷◌, ◌++◌, ℕ, ◌+◌, length}
use Rattle.line_cut.specs.Lines.{lines_of}
use Rattle.line_profile.specs.Under.{line_under}
use Rattle.line_profile.specs.declared.Profile.{Profile}
use Rattle.ledger_row.specs.Row.{row_of, is_loaded}
use Rattle.ledger_totals.specs.Totals.{last_row}

-- each line's row, numbered from the number given
unfoldable pub rows_from : Profile → ℕ → List (List ℕ) → List ℕ
rows_from profile number [] = []
rows_from profile number (l ∷ ls) = row_of number (line_under profile l) ++ rows_from profile (number + 1) ls

-- how many of the lines are loaded, and how many refused
unfoldable pub loaded_in : Profile → List (List ℕ) → ℕ
loaded_in profile [] = 0
loaded_in profile (l ∷ ls) = cond (is_loaded (line_under profile l)) 1 0 + loaded_in profile ls

unfoldable pub refused_in : Profile → List (List ℕ) → ℕ
refused_in profile [] = 0
refused_in profile (l ∷ ls) = cond (is_loaded (line_under profile l)) 0 1 + refused_in profile ls

-- "The last row counts lines, loaded rows, refused rows.", each counted from the lines
abbrev pub totals_of : Profile → List (List ℕ) → List ℕ
totals_of profile lines = last_row (length lines) (loaded_in profile lines) (refused_in profile lines)

-- THE LEDGER: a row for each line, and the totals of the same lines
unfoldable pub ledger_of : Profile → List ℕ → List ℕ
ledger_of profile input = rows_from profile 1 (lines_of input) ++ totals_of profile (lines_of input)
