-- The row of a collection's error (document 02, W-210; its form is the program's own). Definitions only.
use Rattle.std.specs.Prelude.{cond, List, ◌++◌, ℕ, ◌+◌, ◌/◌, ◌%◌, eqb, drop, Option}
use Rattle.text_in.specs.Text.{text}
use Rattle.text_out.specs.Text.{Puts, decimal_of}

-- millionths of millionths as points squared, to twelve places: the whole points, and the twelve digits below them
unfoldable pub places_of : ℕ → List ℕ
places_of n = decimal_of (n / 1000000000000) ++ (text "." ++ drop 1 (decimal_of (1000000000000 + n % 1000000000000)))

-- the mean: the whole part of sum/scored, or that there is none
abbrev pub mean_of : ℕ → ℕ → List ℕ
mean_of scored sum = cond (eqb scored 0) (text "none") (places_of (sum / scored))

abbrev pub mean_word : ℕ → ℕ → List ℕ
mean_word scored sum = text " mean " ++ mean_of scored sum

unfoldable pub error_row : ℕ → ℕ → ℕ → ℕ → List ℕ
error_row scored apart others sum =
    ((text "scored " ++ decimal_of scored) ++ ((text " apart " ++ decimal_of apart)
    ++ ((text " refused " ++ decimal_of others) ++ (text " sum " ++ decimal_of sum))))
    ++ (mean_word scored sum ++ text "\n")

-- what the function promises: the row is put at a place
abbrev pub PutsError : List ℕ → List ℕ → ℕ → ℕ → ℕ → ℕ → ℕ → Option ℕ → Type 0
PutsError old new at scored apart others sum r = Puts old new at (error_row scored apart others sum) r
