-- A board as a table: a row for each rank, a column for each file, the counts in columns as wide as the largest needs. Definitions only.
use Rattle.std.specs.Prelude.{ℕ, ◌+◌, ◌-◌, cond, List, [], ◌∷◌, ◌++◌, length, replicate, ◌==◌}
use Rattle.text_in.specs.Text.{text}
use Rattle.text_out.specs.Text.{decimal_of}
use Rattle.store_text.specs.Board.{laid}

-- as many digits as the largest count has
abbrev pub width_of : ℕ → ℕ
width_of most = length (decimal_of most)

-- a column: one space at least, and the word at its right end
unfoldable pub in_column : ℕ → List ℕ → List ℕ
in_column width word = replicate (width - length word + 1) 32 ++ word

-- a count; a point where there is none, so that a person sees the others
abbrev pub count_word : ℕ → List ℕ
count_word n = cond (n == 0) (text ".") (decimal_of n)

-- the letter of a file
abbrev pub file_word : ℕ → List ℕ
file_word file = (97 + file) ∷ []

-- the letters under a board
unfoldable pub letters_row : ℕ → List ℕ
letters_row width = text " " ++ (laid 8 (λ file. in_column width (file_word file)) ++ text "\n")
