-- The squares of each byte of a board, and what the public function promises. Definitions only.
use Rattle.std.specs.Prelude.{◌≡◌, cond, List, ℕ, eqb, ltb, get_or}
use Rattle.laws.specs.Tables.{tabulate}
use Rattle.bits.specs.Bitboard.{those}

-- where a table of 15 has a byte: any byte past the codes is at 14
abbrev pub table_place : ℕ → ℕ
table_place byte = cond (ltb byte 14) byte 14

-- the squares of each place of a byte
unfoldable pub sorted_by : List ℕ → List ℕ
sorted_by bytes = tabulate 15 (λ place. those 64 (λ k. eqb (table_place (get_or bytes k 0)) place))

abbrev pub Sorts : List ℕ → List ℕ → Type 0
Sorts board r = r ≡ sorted_by board
