-- What each public function promises, for all inputs. Definitions only.
use Rattle.std.specs.Prelude.{◌≡◌, Bool, List, ℕ}
use Rattle.position_boards.specs.Sound.{sound}
use Rattle.position_boards.specs.Wrong.{overlap_of, split_of}
use Rattle.position_boards.specs.Boards.{coded, bitboards_of}
use Rattle.position_boards.specs.declared.Boards.{Boards}

abbrev pub TestsBoards : List ℕ → Bool → Type 0
TestsBoards bitboards r = r ≡ sound bitboards

-- the squares that fail each test
abbrev pub Overlaps : List ℕ → ℕ → Type 0
Overlaps bitboards r = r ≡ overlap_of bitboards

abbrev pub Splits : List ℕ → ℕ → Type 0
Splits bitboards r = r ≡ split_of bitboards

-- the bitboards, and whether every byte is one that a board may hold
abbrev pub Makes : List ℕ → Boards → Type 0
Makes board r = (r.bitboards ≡ bitboards_of board) × (r.coded ≡ coded board)
