-- What each function promises, for all inputs. Definitions only.
use Rattle.std.specs.Prelude.{◌≡◌, ℕ, ℤ}
use Rattle.score_weights.specs.PrivatePacked.{packed_at, opening_in, ending_in}

abbrev pub PacksPawn : ℕ → ℕ → Type 0
PacksPawn square r = r ≡ packed_at 0 square

abbrev pub PacksKnight : ℕ → ℕ → Type 0
PacksKnight square r = r ≡ packed_at 1 square

abbrev pub PacksBishop : ℕ → ℕ → Type 0
PacksBishop square r = r ≡ packed_at 2 square

abbrev pub PacksRook : ℕ → ℕ → Type 0
PacksRook square r = r ≡ packed_at 3 square

abbrev pub PacksQueen : ℕ → ℕ → Type 0
PacksQueen square r = r ≡ packed_at 4 square

abbrev pub PacksKing : ℕ → ℕ → Type 0
PacksKing square r = r ≡ packed_at 5 square

abbrev pub SumsOpening : ℕ → ℤ → Type 0
SumsOpening sum r = r ≡ opening_in sum

abbrev pub SumsEnding : ℕ → ℤ → Type 0
SumsEnding sum r = r ≡ ending_in sum
